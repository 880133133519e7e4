use Rattle.std.proofs.Common.{◌≡◌, ◌+◌, ◌≤◌, false, drop}
use Rattle.pieces.proofs.Tallies.{tally}
use Rattle.pieces.proofs.even.balances.Given as goal

abbrev pub invariant-loop-b : goal.invariant-loop-b
invariant-loop-b l =
    (l.opened + tally 40 l.comment (drop l.b-index l.text) ≡ tally 40 false l.text)
    × (l.closed + tally 41 l.comment (drop l.b-index l.text) ≡ tally 41 false l.text)
    × (l.opened ≤ l.b-index) × (l.closed ≤ l.b-index)
