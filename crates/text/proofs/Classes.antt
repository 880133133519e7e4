-- What a byte's kind says of the byte.
use Rattle.std.proofs.Common.{◌≡◌, ℕ, true, false, arith}
use Rattle.std.proofs.lemmas.Bool.Decides.{nat_tests}
use Rattle.text.specs.Bytes.{is_blank, is_semicolon, kind}
use Rattle.text.specs.declared.bytes.Kind.TheVariants.{Blank, Comment}

pub blank_from_kind : (b : ℕ) → Blank ≡ kind b → is_blank b ≡ true
blank_from_kind b e = grind (arith, nat_tests)

pub comment_from_kind : (b : ℕ) → Comment ≡ kind b → (is_blank b ≡ false) × (is_semicolon b ≡ true)
comment_from_kind b e = (grind (arith, nat_tests), grind (arith, nat_tests))
