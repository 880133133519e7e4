-- What a command spells shows the command.
use Rattle.std.proofs.Common.{◌≡◌, ℕ, List, [], ◌∷◌, codes, sym, refl}
use Rattle.text.specs.Tokens.{Tok, closes, symbol}
use Rattle.forms.specs.Forms.{Group, absent, given, spell_group, Reason, spell_reason}
use Rattle.forms.specs.Forms.{SetLogic, DeclareSort, DeclareFun, Assert, Problem, set_logic, declare_sort, declare_fun, assert, spell_set_logic, spell_declare_sort, spell_declare_fun, spell_assert, spell_problem}
use Rattle.forms.specs.Forms.{Assume, Step, Anchor, Proof, assume, step, anchor, spell_assume, spell_step, spell_anchor, spell_proof}
use Rattle.forms.specs.Layer.{Unambiguous}
use Rattle.forms.proofs.Groups.{NotKey, not_premises, not_args}
use Rattle.forms.proofs.Heads.{differ, heads, bodies}
use Rattle.forms.proofs.Spelling.{same_tree, same_trees}

one_set_logic : (c d : SetLogic) → spell_set_logic c ≡ spell_set_logic d → c ≡ d
one_set_logic c d e =
    let at : c.logic.at ≡ d.logic.at = cc in
    let bytes : c.logic.bytes ≡ d.logic.bytes = cc in
    let end : c.end ≡ d.end = cc in
    λ i. record { logic = record { at = at i; bytes = bytes i }; end = end i }

one_declare_sort : (c d : DeclareSort) → spell_declare_sort c ≡ spell_declare_sort d → c ≡ d
one_declare_sort c d e =
    let at : c.sort.at ≡ d.sort.at = cc in
    let bytes : c.sort.bytes ≡ d.sort.bytes = cc in
    let zero_at : c.zero_at ≡ d.zero_at = cc in
    let end : c.end ≡ d.end = cc in
    λ i. record { sort = record { at = at i; bytes = bytes i }; zero_at = zero_at i; end = end i }

one_declare_fun : (c d : DeclareFun) → spell_declare_fun c ≡ spell_declare_fun d → c ≡ d
one_declare_fun c d e =
    let at : c.function.at ≡ d.function.at = cc in
    let bytes : c.function.bytes ≡ d.function.bytes = cc in
    let left : c.at ≡ d.at = cc in
    let list = same_trees c.takes d.takes c.right d.right (symbol c.gives.at c.gives.bytes ∷ closes c.end ∷ []) (symbol d.gives.at d.gives.bytes ∷ closes d.end ∷ []) (cc) in
    let after = list.2 in
    let gives_at : c.gives.at ≡ d.gives.at = cc in
    let gives_bytes : c.gives.bytes ≡ d.gives.bytes = cc in
    let end : c.end ≡ d.end = cc in
    λ i. record { function = record { at = at i; bytes = bytes i }; at = left i; takes = list.0 i; right = list.1 i; gives = record { at = gives_at i; bytes = gives_bytes i }; end = end i }

one_assert : (c d : Assert) → spell_assert c ≡ spell_assert d → c ≡ d
one_assert c d e =
    let h = same_tree c.term d.term (closes c.end ∷ []) (closes d.end ∷ []) e in
    let after = h.1 in
    let end : c.end ≡ d.end = cc in
    λ i. record { term = h.0 i; end = end i }

one_assume : (c d : Assume) → spell_assume c ≡ spell_assume d → c ≡ d
one_assume c d e =
    let at : c.assumption.at ≡ d.assumption.at = cc in
    let bytes : c.assumption.bytes ≡ d.assumption.bytes = cc in
    let h = same_tree c.term d.term (closes c.end ∷ []) (closes d.end ∷ []) (cc) in
    let after = h.1 in
    let end : c.end ≡ d.end = cc in
    λ i. record { assumption = record { at = at i; bytes = bytes i }; term = h.0 i; end = end i }

one_group : (key : List ℕ) (g h : Group) (A B : List Tok) → NotKey key A → NotKey key B → spell_group key g A ≡ spell_group key h B → (g ≡ h) × (A ≡ B)
one_group key absent absent A B m n e = (refl, e)
one_group key absent (given k at items end) A B m n e = absurd (m k _ e)
one_group key (given k at items end) absent A B m n e = absurd (n k _ (sym e))
one_group key (given k at items end) (given l bt others fin) A B m n e =
    let list = same_trees items others end fin A B (cc) in
    let key_at : k ≡ l = cc in
    let open_at : at ≡ bt = cc in
    ((λ i. given (key_at i) (open_at i) (list.0 i) (list.1 i)), list.2)

one_reason : (c d : Reason) → spell_reason c ≡ spell_reason d → c ≡ d
one_reason c d e =
    let key : c.key ≡ d.key = cc in
    let at : c.rule.at ≡ d.rule.at = cc in
    let bytes : c.rule.bytes ≡ d.rule.bytes = cc in
    let p = one_group (codes "premises") c.premises d.premises _ _ (not_premises c.args c.end) (not_premises d.args d.end) (cc) in
    let a = one_group (codes "args") c.args d.args _ _ (not_args c.end) (not_args d.end) p.1 in
    let after = a.1 in
    let end : c.end ≡ d.end = cc in
    λ i. record { key = key i; rule = record { at = at i; bytes = bytes i }; premises = p.0 i; args = a.0 i; end = end i }

one_step : (c d : Step) → spell_step c ≡ spell_step d → c ≡ d
one_step c d e =
    let at : c.step.at ≡ d.step.at = cc in
    let bytes : c.step.bytes ≡ d.step.bytes = cc in
    let left : c.at ≡ d.at = cc in
    let cl : c.cl ≡ d.cl = cc in
    let list = same_trees c.literals d.literals c.right d.right (spell_reason c.reason) (spell_reason d.reason) (cc) in
    let reason = one_reason c.reason d.reason list.2 in
    λ i. record { step = record { at = at i; bytes = bytes i }; at = left i; cl = cl i; literals = list.0 i; right = list.1 i; reason = reason i }

one_anchor : (c d : Anchor) → spell_anchor c ≡ spell_anchor d → c ≡ d
one_anchor c d e =
    let key : c.key ≡ d.key = cc in
    let at : c.step.at ≡ d.step.at = cc in
    let bytes : c.step.bytes ≡ d.step.bytes = cc in
    let end : c.end ≡ d.end = cc in
    λ i. record { key = key i; step = record { at = at i; bytes = bytes i }; end = end i }

pub one_problem : (p q : Problem) → spell_problem p ≡ spell_problem q → p ≡ q
one_problem (set_logic x h c) (set_logic y k d) e =
    let at : x ≡ y = cc in
    let head : h ≡ k = cc in
    let same = one_set_logic c d (bodies refl e) in
    λ i. set_logic (at i) (head i) (same i)
one_problem (set_logic x h c) (declare_sort y k d) e = differ (codes "set-logic") (codes "declare-sort") refl refl (heads refl e)
one_problem (set_logic x h c) (declare_fun y k d) e = differ (codes "set-logic") (codes "declare-fun") refl refl (heads refl e)
one_problem (set_logic x h c) (assert y k d) e = differ (codes "set-logic") (codes "assert") refl refl (heads refl e)
one_problem (declare_sort x h c) (set_logic y k d) e = differ (codes "declare-sort") (codes "set-logic") refl refl (heads refl e)
one_problem (declare_sort x h c) (declare_sort y k d) e =
    let at : x ≡ y = cc in
    let head : h ≡ k = cc in
    let same = one_declare_sort c d (bodies refl e) in
    λ i. declare_sort (at i) (head i) (same i)
one_problem (declare_sort x h c) (declare_fun y k d) e = differ (codes "declare-sort") (codes "declare-fun") refl refl (heads refl e)
one_problem (declare_sort x h c) (assert y k d) e = differ (codes "declare-sort") (codes "assert") refl refl (heads refl e)
one_problem (declare_fun x h c) (set_logic y k d) e = differ (codes "declare-fun") (codes "set-logic") refl refl (heads refl e)
one_problem (declare_fun x h c) (declare_sort y k d) e = differ (codes "declare-fun") (codes "declare-sort") refl refl (heads refl e)
one_problem (declare_fun x h c) (declare_fun y k d) e =
    let at : x ≡ y = cc in
    let head : h ≡ k = cc in
    let same = one_declare_fun c d (bodies refl e) in
    λ i. declare_fun (at i) (head i) (same i)
one_problem (declare_fun x h c) (assert y k d) e = differ (codes "declare-fun") (codes "assert") refl refl (heads refl e)
one_problem (assert x h c) (set_logic y k d) e = differ (codes "assert") (codes "set-logic") refl refl (heads refl e)
one_problem (assert x h c) (declare_sort y k d) e = differ (codes "assert") (codes "declare-sort") refl refl (heads refl e)
one_problem (assert x h c) (declare_fun y k d) e = differ (codes "assert") (codes "declare-fun") refl refl (heads refl e)
one_problem (assert x h c) (assert y k d) e =
    let at : x ≡ y = cc in
    let head : h ≡ k = cc in
    let same = one_assert c d (bodies refl e) in
    λ i. assert (at i) (head i) (same i)

pub one_proof : (p q : Proof) → spell_proof p ≡ spell_proof q → p ≡ q
one_proof (assume x h c) (assume y k d) e =
    let at : x ≡ y = cc in
    let head : h ≡ k = cc in
    let same = one_assume c d (bodies refl e) in
    λ i. assume (at i) (head i) (same i)
one_proof (assume x h c) (step y k d) e = differ (codes "assume") (codes "step") refl refl (heads refl e)
one_proof (assume x h c) (anchor y k d) e = differ (codes "assume") (codes "anchor") refl refl (heads refl e)
one_proof (step x h c) (assume y k d) e = differ (codes "step") (codes "assume") refl refl (heads refl e)
one_proof (step x h c) (step y k d) e =
    let at : x ≡ y = cc in
    let head : h ≡ k = cc in
    let same = one_step c d (bodies refl e) in
    λ i. step (at i) (head i) (same i)
one_proof (step x h c) (anchor y k d) e = differ (codes "step") (codes "anchor") refl refl (heads refl e)
one_proof (anchor x h c) (assume y k d) e = differ (codes "anchor") (codes "assume") refl refl (heads refl e)
one_proof (anchor x h c) (step y k d) e = differ (codes "anchor") (codes "step") refl refl (heads refl e)
one_proof (anchor x h c) (anchor y k d) e =
    let at : x ≡ y = cc in
    let head : h ≡ k = cc in
    let same = one_anchor c d (bodies refl e) in
    λ i. anchor (at i) (head i) (same i)

apart : (p : Problem) (q : Proof) → spell_problem p ≡ spell_proof q → ⊥
apart (set_logic x h c) (assume y k d) e = differ (codes "set-logic") (codes "assume") refl refl (heads refl e)
apart (set_logic x h c) (step y k d) e = differ (codes "set-logic") (codes "step") refl refl (heads refl e)
apart (set_logic x h c) (anchor y k d) e = differ (codes "set-logic") (codes "anchor") refl refl (heads refl e)
apart (declare_sort x h c) (assume y k d) e = differ (codes "declare-sort") (codes "assume") refl refl (heads refl e)
apart (declare_sort x h c) (step y k d) e = differ (codes "declare-sort") (codes "step") refl refl (heads refl e)
apart (declare_sort x h c) (anchor y k d) e = differ (codes "declare-sort") (codes "anchor") refl refl (heads refl e)
apart (declare_fun x h c) (assume y k d) e = differ (codes "declare-fun") (codes "assume") refl refl (heads refl e)
apart (declare_fun x h c) (step y k d) e = differ (codes "declare-fun") (codes "step") refl refl (heads refl e)
apart (declare_fun x h c) (anchor y k d) e = differ (codes "declare-fun") (codes "anchor") refl refl (heads refl e)
apart (assert x h c) (assume y k d) e = differ (codes "assert") (codes "assume") refl refl (heads refl e)
apart (assert x h c) (step y k d) e = differ (codes "assert") (codes "step") refl refl (heads refl e)
apart (assert x h c) (anchor y k d) e = differ (codes "assert") (codes "anchor") refl refl (heads refl e)

pub unambiguous : Unambiguous
unambiguous = record { terms = same_tree; problems = one_problem; proofs = one_proof; apart = apart }
