use Rattle.std.proofs.Common.{refl, rules}
use Rattle.std.proofs.lemmas.Result.{err_from_is_err_and}
use Rattle.text.specs.Reading.{left}
use Rattle.text.proofs.Lexing.{no_token, token_refused, token_made}
use Rattle.text.proofs.reader.Reader.next.Goals as goal

pub returns-then-at-self : goal.returns-then-at-self
unfolding left
returns-then-at-self c = search (rules, no_token)

pub returns-in_err-token : goal.returns-in_err-token
unfolding left
returns-in_err-token c =
    let p = err_from_is_err_and c.from_residual.result c.from_residual.ensures.1 in
    rw (p.1, p.2)
    (token_refused c.args.self.now.text.now _ _ c.skip-at.ensures c.if-at-self.false _ c.lexeme_end-end.ensures.value _ c.in_err-token.ensures, refl)

pub returns : goal.returns
unfolding left
returns c =
    token_made c.args.self.now.text.now _ _ c.skip-at.ensures c.if-at-self.false _ c.lexeme_end-end.ensures.value _ c.in_ok-token.ensures
