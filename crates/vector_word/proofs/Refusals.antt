-- No refusal is numbered 0 (`not_done`), so that an answer numbered 0 is a value.
-- Assumes nothing.
use Rattle.std.proofs.Common.{◌≡◌, arith}
use Rattle.refusal.specs.Refusal.{number}
use Rattle.refusal.specs.declared.Refusal.{Refusal}
use Rattle.refusal.specs.declared.Refusal.TheVariants.{BadVlenOrFile, NotAWord, BadSettings, SewNot32, NotMultipleOf4, BadGroup, KeyOverlap, MaskOverlap, Not16Bytes, BadRunning, TooLong, NoneExists, ManyExist, BadTrace, BadParked, BadLinks, ShortText}

pub not_done : (r : Refusal) → number r ≡ 0 → ⊥
not_done BadVlenOrFile e = omega arith
not_done NotAWord e = omega arith
not_done BadSettings e = omega arith
not_done SewNot32 e = omega arith
not_done NotMultipleOf4 e = omega arith
not_done BadGroup e = omega arith
not_done KeyOverlap e = omega arith
not_done MaskOverlap e = omega arith
not_done Not16Bytes e = omega arith
not_done BadRunning e = omega arith
not_done TooLong e = omega arith
not_done NoneExists e = omega arith
not_done ManyExist e = omega arith
not_done BadTrace e = omega arith
not_done BadParked e = omega arith
not_done BadLinks e = omega arith
not_done ShortText e = omega arith
