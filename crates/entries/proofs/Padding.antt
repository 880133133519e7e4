-- A short list is made, and grows.
use Rattle.std.proofs.Common.{◌≡◌, ℕ, ◌+◌, ◌-◌, ◌<◌, ◌≤◌, List, ◌++◌, length, take, drop, set, replicate, sym, ap, ◌∙◌, arith}
use Rattle.std.proofs.lemmas.List.{drop_at, drop-set-lt, drop-replicate, drop-drop, length-append, length-drop, length-replicate, length-set}
use Rattle.entries.specs.Few.{Padded, as_many}

-- items copied to the front of blanks
pub padded_front : {X : Type 0} (n : ℕ) (blank : X) (len : ℕ) (front : List X) → len ≤ n → length front ≡ len →
    Padded n blank len (front ++ drop len (replicate n blank))
padded_front n blank len front few is =
    let all = length-append front (drop len (replicate n blank)) in
    let rest = length-drop len (replicate n blank) in
    let blanks = length-replicate n blank in
    record {
      fits = few;
      whole = omega arith;
      rest = drop_at front (drop len (replicate n blank)) len is ∙ drop-replicate len n blank;
    }

pub padded_more : {X : Type 0} (n : ℕ) (blank : X) (len : ℕ) (places items : List X) (item : X) → Padded n blank len places →
    take len places ≡ items → length items < n → Padded n blank (len + 1) (set places len item)
padded_more n blank len places items item h view room =
    let many = as_many n blank len places h in
    let seen : length (take len places) ≡ length items = ap length view in
    let less : n - len - 1 ≡ n - (len + 1) = omega arith in
    record {
      fits = omega arith;
      whole = length-set places len item ∙ h.whole;
      rest = drop-set-lt (len + 1) places len item (omega arith) ∙ sym (drop-drop 1 len places) ∙ ap (drop 1) h.rest
          ∙ drop-replicate 1 (n - len) blank ∙ ap (λ k. replicate k blank) less;
    }
