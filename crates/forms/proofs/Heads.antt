-- A command's first word says which form it has.
use Rattle.std.proofs.Common.{◌≡◌, ℕ, Bool, true, false, cond, List, ◌∷◌, Some, None, codes, Option, sym, refl, ap, ◌∙◌}
use Rattle.std.specs.Str.{bytes_eq}
use Rattle.text.specs.Tokens.{Tok, opens, symbol}
use Rattle.forms.specs.Forms.{SetLogic, DeclareSort, DeclareFun, Assert, Problem, set_logic, declare_sort, declare_fun, assert, spell_set_logic, spell_declare_sort, spell_declare_fun, spell_assert, spell_problem, FitDeclareFun, FitAssert, FitProblem}
use Rattle.forms.specs.Forms.{Assume, Step, Anchor, Proof, assume, step, anchor, spell_assume, spell_step, spell_anchor, spell_proof, FitAssume, FitStep, FitProof}
use Rattle.forms.specs.Parsed.{kept_set_logic, kept_declare_sort, kept_declare_fun, kept_assert, kept_problem, seen_problem, kept_assume, kept_step, kept_anchor, kept_proof, seen_proof, Parses}
use Rattle.forms.specs.declared.form.ProblemForm.{ProblemForm}
use Rattle.forms.specs.declared.form.ProofForm.{ProofForm}
use Rattle.forms.proofs.Spelling.{off}

-- two words that differ, by a computed test
pub differ : {X : Type 0} (u v : List ℕ) → bytes_eq u u ≡ true → bytes_eq v u ≡ false → u ≡ v → X
differ u v same other e =
    let z : ◌≡◌ {A = Bool} true false = sym same ∙ ap (λ w. bytes_eq w u) e ∙ other in
    off (let h : ◌≡◌ {A = ℕ} 1 0 = ap (λ b. cond b 1 0) z in sym h)

-- the word and the rest after the first two tokens, said in two ways
pub heads : {a b h k : ℕ} {w v : List ℕ} {text A B : List Tok} → text ≡ opens a ∷ symbol h w ∷ A → text ≡ opens b ∷ symbol k v ∷ B → w ≡ v
heads p q = cc

pub bodies : {a b h k : ℕ} {w v : List ℕ} {text A B : List Tok} → text ≡ opens a ∷ symbol h w ∷ A → text ≡ opens b ∷ symbol k v ∷ B → A ≡ B
bodies p q = cc

-- a form whose trees are some of those of a part, by a constructor of the part
module _ {T P K F : Type 0} (Fit : T → Type 0) (spell : T → List Tok) (kept : T → K) (seen : F → K) (FitPart : P → Type 0) (spell_part : P → List Tok) (kept_part : P → K) (make : ℕ → ℕ → T → P) (word : List ℕ)
    (fits : (a h : ℕ) (t : T) → Fit t → FitPart (make a h t))
    (spells : (a h : ℕ) (t : T) → opens a ∷ symbol h word ∷ spell t ≡ spell_part (make a h t))
    (keeps : (a h : ℕ) (t : T) → kept t ≡ kept_part (make a h t))
    (only : (p : P) (a h : ℕ) (body : List Tok) → FitPart p → opens a ∷ symbol h word ∷ body ≡ spell_part p → (t : T) × Fit t × (body ≡ spell t)) where
  of_part : (w : List ℕ) (body : List Tok) → w ≡ word → (r : Option F) → Parses Fit spell kept seen body r → (a h : ℕ) → Parses FitPart spell_part kept_part seen (opens a ∷ symbol h w ∷ body) r
  of_part w body is None none =
      λ a h p fit same. let o = only p a h body fit (ap (λ v. opens a ∷ symbol h v ∷ body) (sym is) ∙ same) in none o.0 o.1 o.2
  of_part w body is (Some form) found =
      λ a h. (make a h found.0, fits a h found.0 found.1, ap (λ v. opens a ∷ symbol h v ∷ body) is ∙ ap (λ l. opens a ∷ symbol h word ∷ l) found.2 ∙ spells a h found.0, found.3 ∙ keeps a h found.0)

only_set_logic : (p : Problem) (a h : ℕ) (body : List Tok) → FitProblem p → opens a ∷ symbol h (codes "set-logic") ∷ body ≡ spell_problem p → (t : SetLogic) × Unit {0} × (body ≡ spell_set_logic t)
only_set_logic (set_logic b k c) a h body fit e = (c, fit, bodies refl e)
only_set_logic (declare_sort b k c) a h body fit e = differ (codes "set-logic") (codes "declare-sort") refl refl (heads refl e)
only_set_logic (declare_fun b k c) a h body fit e = differ (codes "set-logic") (codes "declare-fun") refl refl (heads refl e)
only_set_logic (assert b k c) a h body fit e = differ (codes "set-logic") (codes "assert") refl refl (heads refl e)

pub is_set_logic : (w : List ℕ) (body : List Tok) → w ≡ codes "set-logic" → (r : Option ProblemForm) → Parses (λ _. Unit {0}) spell_set_logic kept_set_logic seen_problem body r → (a h : ℕ) → Parses FitProblem spell_problem kept_problem seen_problem (opens a ∷ symbol h w ∷ body) r
is_set_logic = of_part (λ _. Unit {0}) spell_set_logic kept_set_logic seen_problem FitProblem spell_problem kept_problem set_logic (codes "set-logic") (λ a h t f. f) (λ a h t. refl) (λ a h t. refl) only_set_logic

only_declare_sort : (p : Problem) (a h : ℕ) (body : List Tok) → FitProblem p → opens a ∷ symbol h (codes "declare-sort") ∷ body ≡ spell_problem p → (t : DeclareSort) × Unit {0} × (body ≡ spell_declare_sort t)
only_declare_sort (set_logic b k c) a h body fit e = differ (codes "declare-sort") (codes "set-logic") refl refl (heads refl e)
only_declare_sort (declare_sort b k c) a h body fit e = (c, fit, bodies refl e)
only_declare_sort (declare_fun b k c) a h body fit e = differ (codes "declare-sort") (codes "declare-fun") refl refl (heads refl e)
only_declare_sort (assert b k c) a h body fit e = differ (codes "declare-sort") (codes "assert") refl refl (heads refl e)

pub is_declare_sort : (w : List ℕ) (body : List Tok) → w ≡ codes "declare-sort" → (r : Option ProblemForm) → Parses (λ _. Unit {0}) spell_declare_sort kept_declare_sort seen_problem body r → (a h : ℕ) → Parses FitProblem spell_problem kept_problem seen_problem (opens a ∷ symbol h w ∷ body) r
is_declare_sort = of_part (λ _. Unit {0}) spell_declare_sort kept_declare_sort seen_problem FitProblem spell_problem kept_problem declare_sort (codes "declare-sort") (λ a h t f. f) (λ a h t. refl) (λ a h t. refl) only_declare_sort

only_declare_fun : (p : Problem) (a h : ℕ) (body : List Tok) → FitProblem p → opens a ∷ symbol h (codes "declare-fun") ∷ body ≡ spell_problem p → (t : DeclareFun) × FitDeclareFun t × (body ≡ spell_declare_fun t)
only_declare_fun (set_logic b k c) a h body fit e = differ (codes "declare-fun") (codes "set-logic") refl refl (heads refl e)
only_declare_fun (declare_sort b k c) a h body fit e = differ (codes "declare-fun") (codes "declare-sort") refl refl (heads refl e)
only_declare_fun (declare_fun b k c) a h body fit e = (c, fit, bodies refl e)
only_declare_fun (assert b k c) a h body fit e = differ (codes "declare-fun") (codes "assert") refl refl (heads refl e)

pub is_declare_fun : (w : List ℕ) (body : List Tok) → w ≡ codes "declare-fun" → (r : Option ProblemForm) → Parses FitDeclareFun spell_declare_fun kept_declare_fun seen_problem body r → (a h : ℕ) → Parses FitProblem spell_problem kept_problem seen_problem (opens a ∷ symbol h w ∷ body) r
is_declare_fun = of_part FitDeclareFun spell_declare_fun kept_declare_fun seen_problem FitProblem spell_problem kept_problem declare_fun (codes "declare-fun") (λ a h t f. f) (λ a h t. refl) (λ a h t. refl) only_declare_fun

only_assert : (p : Problem) (a h : ℕ) (body : List Tok) → FitProblem p → opens a ∷ symbol h (codes "assert") ∷ body ≡ spell_problem p → (t : Assert) × FitAssert t × (body ≡ spell_assert t)
only_assert (set_logic b k c) a h body fit e = differ (codes "assert") (codes "set-logic") refl refl (heads refl e)
only_assert (declare_sort b k c) a h body fit e = differ (codes "assert") (codes "declare-sort") refl refl (heads refl e)
only_assert (declare_fun b k c) a h body fit e = differ (codes "assert") (codes "declare-fun") refl refl (heads refl e)
only_assert (assert b k c) a h body fit e = (c, fit, bodies refl e)

pub is_assert : (w : List ℕ) (body : List Tok) → w ≡ codes "assert" → (r : Option ProblemForm) → Parses FitAssert spell_assert kept_assert seen_problem body r → (a h : ℕ) → Parses FitProblem spell_problem kept_problem seen_problem (opens a ∷ symbol h w ∷ body) r
is_assert = of_part FitAssert spell_assert kept_assert seen_problem FitProblem spell_problem kept_problem assert (codes "assert") (λ a h t f. f) (λ a h t. refl) (λ a h t. refl) only_assert

only_assume : (p : Proof) (a h : ℕ) (body : List Tok) → FitProof p → opens a ∷ symbol h (codes "assume") ∷ body ≡ spell_proof p → (t : Assume) × FitAssume t × (body ≡ spell_assume t)
only_assume (assume b k c) a h body fit e = (c, fit, bodies refl e)
only_assume (step b k c) a h body fit e = differ (codes "assume") (codes "step") refl refl (heads refl e)
only_assume (anchor b k c) a h body fit e = differ (codes "assume") (codes "anchor") refl refl (heads refl e)

pub is_assume : (w : List ℕ) (body : List Tok) → w ≡ codes "assume" → (r : Option ProofForm) → Parses FitAssume spell_assume kept_assume seen_proof body r → (a h : ℕ) → Parses FitProof spell_proof kept_proof seen_proof (opens a ∷ symbol h w ∷ body) r
is_assume = of_part FitAssume spell_assume kept_assume seen_proof FitProof spell_proof kept_proof assume (codes "assume") (λ a h t f. f) (λ a h t. refl) (λ a h t. refl) only_assume

only_step : (p : Proof) (a h : ℕ) (body : List Tok) → FitProof p → opens a ∷ symbol h (codes "step") ∷ body ≡ spell_proof p → (t : Step) × FitStep t × (body ≡ spell_step t)
only_step (assume b k c) a h body fit e = differ (codes "step") (codes "assume") refl refl (heads refl e)
only_step (step b k c) a h body fit e = (c, fit, bodies refl e)
only_step (anchor b k c) a h body fit e = differ (codes "step") (codes "anchor") refl refl (heads refl e)

pub is_step : (w : List ℕ) (body : List Tok) → w ≡ codes "step" → (r : Option ProofForm) → Parses FitStep spell_step kept_step seen_proof body r → (a h : ℕ) → Parses FitProof spell_proof kept_proof seen_proof (opens a ∷ symbol h w ∷ body) r
is_step = of_part FitStep spell_step kept_step seen_proof FitProof spell_proof kept_proof step (codes "step") (λ a h t f. f) (λ a h t. refl) (λ a h t. refl) only_step

only_anchor : (p : Proof) (a h : ℕ) (body : List Tok) → FitProof p → opens a ∷ symbol h (codes "anchor") ∷ body ≡ spell_proof p → (t : Anchor) × Unit {0} × (body ≡ spell_anchor t)
only_anchor (assume b k c) a h body fit e = differ (codes "anchor") (codes "assume") refl refl (heads refl e)
only_anchor (step b k c) a h body fit e = differ (codes "anchor") (codes "step") refl refl (heads refl e)
only_anchor (anchor b k c) a h body fit e = (c, fit, bodies refl e)

pub is_anchor : (w : List ℕ) (body : List Tok) → w ≡ codes "anchor" → (r : Option ProofForm) → Parses (λ _. Unit {0}) spell_anchor kept_anchor seen_proof body r → (a h : ℕ) → Parses FitProof spell_proof kept_proof seen_proof (opens a ∷ symbol h w ∷ body) r
is_anchor = of_part (λ _. Unit {0}) spell_anchor kept_anchor seen_proof FitProof spell_proof kept_proof anchor (codes "anchor") (λ a h t f. f) (λ a h t. refl) (λ a h t. refl) only_anchor

-- no form of the proof part begins with another word
pub no_move : (a h : ℕ) (w : List ℕ) (body : List Tok) (p : Proof) → (w ≡ codes "step" → ⊥) → (w ≡ codes "assume" → ⊥) → (w ≡ codes "anchor" → ⊥) → opens a ∷ symbol h w ∷ body ≡ spell_proof p → ⊥
no_move a h w body (assume b k c) s u v e = u (heads refl e)
no_move a h w body (step b k c) s u v e = s (heads refl e)
no_move a h w body (anchor b k c) s u v e = v (heads refl e)

-- nor of the problem part
pub no_entry : (a h : ℕ) (w : List ℕ) (body : List Tok) (p : Problem) → (w ≡ codes "assert" → ⊥) → (w ≡ codes "declare-fun" → ⊥) → (w ≡ codes "declare-sort" → ⊥) → (w ≡ codes "set-logic" → ⊥) → opens a ∷ symbol h w ∷ body ≡ spell_problem p → ⊥
no_entry a h w body (set_logic b k c) s t u v e = v (heads refl e)
no_entry a h w body (declare_sort b k c) s t u v e = u (heads refl e)
no_entry a h w body (declare_fun b k c) s t u v e = t (heads refl e)
no_entry a h w body (assert b k c) s t u v e = s (heads refl e)
