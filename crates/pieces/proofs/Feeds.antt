-- Lines and columns, byte by byte.
use Rattle.std.proofs.Common.{◌≡◌, ℕ, ◌+◌, ◌-◌, ◌<◌, ◌≤◌, true, false, not, List, length, get_or, take, drop, ap, ◌∙◌, arith, length-take}
use Rattle.std.proofs.lemmas.List.{get_or-take, get_or-drop}
use Rattle.std.specs.List.{suffix_len}
use Rattle.std.proofs.lemmas.List.Sums.{suffix_len-le-length, count_by_more_yes, count_by_more_no, suffix_len-take_yes, suffix_len-take_no}
use Rattle.std.proofs.lemmas.Bool.{eq-eqb, ne_eqb, not_from_true, not_from_false}
use Rattle.pieces.specs.Positions.{is_feed, line_after, column_after}

module _ (text : List ℕ) (i line column : ℕ) (lt : i < length text) (l : line ≡ line_after (take i text)) (k : column ≡ column_after (take i text)) where
  back : i + 1 - 1 ≡ i
  back = omega arith

  pub at_feed : (j : ℕ) → j ≡ i + 1 → get_or text i 0 ≡ 10 → (line + 1 ≡ line_after (take j text)) × (1 ≡ column_after (take j text))
  at_feed j same e =
      let yes : is_feed (get_or text i 0) ≡ true = eq-eqb _ _ e in
      let last : not (is_feed (get_or text (i + 1 - 1) 0)) ≡ false = ap (λ j. not (is_feed (get_or text j 0))) back ∙ not_from_true _ yes in
      rw same (omega (arith, count_by_more_yes is_feed text i 0 lt yes), omega (arith, suffix_len-take_no (λ b. not (is_feed b)) text (i + 1) 0 (omega arith) (omega arith) last))

  pub at_other : (j : ℕ) → j ≡ i + 1 → (get_or text i 0 ≡ 10 → ⊥) → (line ≡ line_after (take j text)) × (column + 1 ≡ column_after (take j text))
  at_other j same ne =
      let no : is_feed (get_or text i 0) ≡ false = ne_eqb _ _ ne in
      let last : not (is_feed (get_or text (i + 1 - 1) 0)) ≡ true = ap (λ j. not (is_feed (get_or text j 0))) back ∙ not_from_false _ no in
      let front : suffix_len (λ b. not (is_feed b)) (take (i + 1 - 1) text) ≡ suffix_len (λ b. not (is_feed b)) (take i text) =
      ap (λ j. suffix_len (λ b. not (is_feed b)) (take j text)) back
      in
      rw same (omega (arith, count_by_more_no is_feed text i 0 lt no), omega (arith, suffix_len-take_yes (λ b. not (is_feed b)) text (i + 1) 0 (omega arith) (omega arith) last))

-- a byte of a part stands in the text
pub part_at : (text : List ℕ) (from to k : ℕ) → from + k < to → get_or (take (to - from) (drop from text)) k 0 ≡ get_or text (from + k) 0
part_at text from to k lt = get_or-take (to - from) (drop from text) k 0 (omega arith) ∙ get_or-drop from text k 0

-- no place has more columns before it than bytes
pub column_le : (text : List ℕ) (i : ℕ) → column_after (take i text) ≤ i + 1
column_le text i = omega (arith, suffix_len-le-length (λ b. not (is_feed b)) (take i text), length-take i text)
