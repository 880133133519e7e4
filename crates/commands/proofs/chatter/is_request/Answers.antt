use Rattle.commands.proofs.Deciding.{setting_decides, request_decides}
use Rattle.commands.proofs.chatter.is_request.Goals as goal

pub returns-then-settles : goal.returns-then-settles
returns-then-settles c =
    setting_decides _ _ _ _ _ c.in-Some-symbol.word.text.now c.in-Some.ensures c.in-Some-symbol.ensures _ c.if-settles.true c.settles.ensures

pub returns-then-requests : goal.returns-then-requests
returns-then-requests c =
    request_decides _ _ _ _ _ c.in-Some-symbol.word.text.now c.in-Some.ensures c.in-Some-symbol.ensures _ c.if-settles.false c.settles.ensures
    (c.requests.ensures.0 c.if-requests.true) c.closing.result c.closing.ensures _ c.is_some.ensures
