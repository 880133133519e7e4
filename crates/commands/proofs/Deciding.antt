-- Chatter is decided token by token.
use Rattle.std.proofs.Common.{◌≡◌, ℕ, Bool, true, false, List, [], ◌∷◌, is_some, Some, None, Decides, Option, sym, refl, ap, ◌∙◌, subst, MatchOption}
use Rattle.text.specs.Tokens.{Tok, opens, closes, symbol}
use Rattle.text.proofs.Places.{off}
use Rattle.commands.specs.Chatter.{Answer, Request, Setting, Answers, answer, Requests, request, setting, Speech}
use Rattle.commands.specs.declared.part.Part.{Part}
use Rattle.commands.specs.declared.part.Part.TheVariants.{Problem, Proof}

pub answer_decides : (ts rest : List Tok) (at : ℕ) (word : List ℕ) (b : Bool) → ts ≡ symbol at word ∷ rest → Answer word → Decides b (rest ≡ []) → Decides b (Answers ts)
answer_decides ts rest at word b e is d =
    (λ yes. answer at word is (e ∙ ap (λ r. symbol at word ∷ r) (d.0 yes)), λ h. d.1 (ends h))
  where
    ends : Answers ts → rest ≡ []
    ends (answer at' word' is' e') = cc

-- a bracket and a word stand first
module _ (ts first rest : List Tok) (at head : ℕ) (word : List ℕ) (e : ts ≡ opens at ∷ first) (f : first ≡ symbol head word ∷ rest) where
  front : ts ≡ opens at ∷ symbol head word ∷ rest
  front = e ∙ ap (λ r. opens at ∷ r) f

  pub setting_decides : (b : Bool) → b ≡ true → Decides b (Setting word) → Decides b (Requests ts)
  setting_decides b it d = (λ _. setting at head word rest (d.0 it) front, λ _. it)

  closes_it : (s : Bool) → s ≡ false → Decides s (Setting word) → Request word → (end : Option ℕ) → MatchOption end ((k : ℕ) → rest ≡ closes k ∷ [] → ⊥) (λ k. rest ≡ closes k ∷ []) → Decides (is_some end) (Requests ts)
  closes_it s not_set d is (Some k) h =
      (λ _. request at head word k is (front ∙ ap (λ r. opens at ∷ symbol head word ∷ r) h), λ _. refl)
  closes_it s not_set d is None h = (λ bad. off (cc), λ r. none r)
    where
      none : Requests ts → false ≡ true
      none (request at' head' word' end' is' e') = absurd (h end' (cc))
      none (setting at' head' word' rest' is' e') =
          let same : word' ≡ word = cc in
          sym not_set ∙ d.1 (subst Setting same is')

  pub request_decides : (s : Bool) → s ≡ false → Decides s (Setting word) → Request word → (end : Option ℕ) → MatchOption end ((k : ℕ) → rest ≡ closes k ∷ [] → ⊥) (λ k. rest ≡ closes k ∷ []) → (b : Bool) → b ≡ is_some end → Decides b (Requests ts)
  request_decides s not_set d is end h b e' = subst (λ z. Decides z (Requests ts)) (sym e') (closes_it s not_set d is end h)

pub chatter_problem : (p : Part) (ts l : List Tok) (b : Bool) → p ≡ Problem → l ≡ ts → Decides b (Requests l) → Decides b (Speech p ts)
chatter_problem p ts l b is e d =
    let D : Part → List Tok → Type 0 = λ q us. Decides b (Speech q us) in
    subst (λ q. D q ts) (sym is) (subst (D Problem) e d)

pub chatter_proof : (p : Part) (ts l : List Tok) (b : Bool) → p ≡ Proof → l ≡ ts → Decides b (Answers l) → Decides b (Speech p ts)
chatter_proof p ts l b is e d =
    let D : Part → List Tok → Type 0 = λ q us. Decides b (Speech q us) in
    subst (λ q. D q ts) (sym is) (subst (D Proof) e d)
