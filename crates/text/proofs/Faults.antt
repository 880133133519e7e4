-- The first fault among a text's tokens is the leftmost.
use Rattle.std.proofs.Common.{◌≡◌, ℕ, suc, ◌≤◌, List, [], ◌∷◌, map, Some, None, Ok, Err, Result, refl, ap, arith}
use Rattle.std.specs.List.{ContainsAt as Has, AllByRecursion}
use Rattle.std.proofs.ByRecursion.{All-weaker, All-map, all-has}
use Rattle.text.specs.Parts.{Part}
use Rattle.text.specs.Tokens.{Tok, opens, closes, symbol, keyword, numeral, fault, place_of, place, token_of, tokens, first_fault}
use Rattle.text.specs.Layout.{Laid, end_of}
use Rattle.text.specs.Reading.{Scans, Leftmost}
use Rattle.text.specs.declared.token.TokenFault.{TokenFault}
use Rattle.text.proofs.Places.{off, place_token}
use Rattle.text.proofs.Shapes.{lexed}

-- what is laid out from a place on stands there or after it
after : (text : List ℕ) (from : ℕ) (ps : List Part) → Laid text from ps → AllByRecursion (λ p. from ≤ p.at) ps
after text from [] h = tt
after text from (p ∷ ps) h =
    (h.0.forward, All-weaker (λ q. end_of p ≤ q.at) (λ q. from ≤ q.at) (λ q le. omega (arith, h.0.forward)) ps (after text (end_of p) ps h.2))

-- each token stands before those that follow
Ordered : List Tok → Type 0
Ordered [] = Unit {0}
Ordered (t ∷ ts) = AllByRecursion (λ u. place t ≤ place u) ts × Ordered ts

ordered : (text : List ℕ) (from : ℕ) (ps : List Part) → Laid text from ps → Ordered (map token_of ps)
unfolding Ordered
ordered text from [] h = tt
ordered text from (p ∷ ps) h =
    (All-map (λ u. place (token_of p) ≤ place u) token_of ps (All-weaker (λ q. end_of p ≤ q.at) (λ q. place (token_of p) ≤ place (token_of q)) (λ q le. omega (arith, place_token p, place_token q)) ps (after text (end_of p) ps h.2)), ordered text (end_of p) ps h.2)

-- a fault among tokens stands at a place or after it
NotLeft : ℕ → Tok → Type 0
NotLeft i t = (g : TokenFault) → t ≡ fault g → i ≤ place_of g

none_left : (f : TokenFault) (ts : List Tok) → Ordered ts → first_fault ts ≡ Some f → AllByRecursion (NotLeft (place_of f)) ts
unfolding Ordered NotLeft
none_left f [] o e = tt
none_left f (opens at ∷ ts) o e = (λ g is. off (cc), none_left f ts o.1 e)
none_left f (closes at ∷ ts) o e = (λ g is. off (cc), none_left f ts o.1 e)
none_left f (symbol at bs ∷ ts) o e = (λ g is. off (cc), none_left f ts o.1 e)
none_left f (keyword at bs ∷ ts) o e = (λ g is. off (cc), none_left f ts o.1 e)
none_left f (numeral at n ∷ ts) o e = (λ g is. off (cc), none_left f ts o.1 e)
none_left f (fault h ∷ ts) o e =
    let here : place_of h ≡ place_of f = let same : h ≡ f = cc in ap place_of same in
    (λ g is. let same : place_of h ≡ place_of g = let eq : h ≡ g = cc in ap place_of eq in omega arith, All-weaker (λ u. place_of h ≤ place u) (NotLeft (place_of f)) (λ u le g is. omega (arith, ap place is)) ts o.0)

has_next : (t u : Tok) (ts : List Tok) → Has ts u → Has (t ∷ ts) u
has_next t u ts h = (suc h.0, omega arith, h.2)

-- the first fault is among the tokens
found : (f : TokenFault) (ts : List Tok) → first_fault ts ≡ Some f → Has ts (fault f)
found f [] e = off (cc)
found f (opens at ∷ ts) e = has_next _ (fault f) ts (found f ts e)
found f (closes at ∷ ts) e = has_next _ (fault f) ts (found f ts e)
found f (symbol at bs ∷ ts) e = has_next _ (fault f) ts (found f ts e)
found f (keyword at bs ∷ ts) e = has_next _ (fault f) ts (found f ts e)
found f (numeral at n ∷ ts) e = has_next _ (fault f) ts (found f ts e)
found f (fault h ∷ ts) e = (0, omega arith, λ d. ap fault (let same : h ≡ f = cc in same))

-- where there is no first fault there is none
unfaulted : (ts : List Tok) → first_fault ts ≡ None → AllByRecursion (λ t. (g : TokenFault) → t ≡ fault g → ⊥) ts
unfaulted [] e = tt
unfaulted (opens at ∷ ts) e = (λ g is. off (cc), unfaulted ts e)
unfaulted (closes at ∷ ts) e = (λ g is. off (cc), unfaulted ts e)
unfaulted (symbol at bs ∷ ts) e = (λ g is. off (cc), unfaulted ts e)
unfaulted (keyword at bs ∷ ts) e = (λ g is. off (cc), unfaulted ts e)
unfaulted (numeral at n ∷ ts) e = (λ g is. off (cc), unfaulted ts e)
unfaulted (fault h ∷ ts) e = off (cc)

pub leftmost : (text : List ℕ) (r : Result ℕ TokenFault) → Scans (tokens text) r → Leftmost (tokens text) r
unfolding NotLeft
leftmost text (Ok n) h = λ f has. all-has (λ t. (g : TokenFault) → t ≡ fault g → ⊥) (tokens text) (fault f) (unfaulted (tokens text) h.0) has f refl
leftmost text (Err f) h =
    (found f (tokens text) h, λ g has. all-has (NotLeft (place_of f)) (tokens text) (fault g) (none_left f (tokens text) (ordered text 0 _ (lexed text).laid) h) has g refl)
