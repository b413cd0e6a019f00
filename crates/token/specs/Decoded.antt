-- A node's kind is told by its first byte.
use Rattle.std.specs.Prelude.{◌≡◌, true, false}
use Rattle.std.proofs.Math.Path.{refl}
use Rattle.token.specs.declared.Unary.TheVariants.{Not, Next, Finally, Globally}
use Rattle.token.specs.declared.Binary.TheVariants.{And, Or, Until, Release}
use Rattle.token.specs.declared.Kind.{Kind}
use Rattle.token.specs.declared.Kind.TheVariants.{Top, Mark, Unary as OneOperand, Binary as TwoOperands, Count}
use Rattle.token.specs.Block.{kind_byte, kind_of}

pub kind_of_byte : (k : Kind) → kind_of (kind_byte k) ≡ k
kind_of_byte Top = refl
kind_of_byte Mark = refl
kind_of_byte (OneOperand Not) = refl
kind_of_byte (OneOperand Next) = refl
kind_of_byte (OneOperand Finally) = refl
kind_of_byte (OneOperand Globally) = refl
kind_of_byte (TwoOperands And) = refl
kind_of_byte (TwoOperands Or) = refl
kind_of_byte (TwoOperands Until) = refl
kind_of_byte (TwoOperands Release) = refl
kind_of_byte (Count false) = refl
kind_of_byte (Count true) = refl
