-- How long a text and its parts are: a text has at most 30 bytes (`texts-fit`). Assumes nothing.
use Rattle.std.proofs.Common.{Bool, true, false, cond, List, [], ◌∷◌, ◌++◌, ℕ, ◌/◌, ◌%◌, ◌≤◌, arith, eqb, ltb, length, length-append, Option, Some, None}
use Rattle.vector_kind.specs.declared.Kind.{Kind}
use Rattle.vector_kind.specs.declared.Kind.TheVariants.{VclmulVv, VclmulVx, VclmulhVv, VclmulhVx, VghshVv, VghshVs, VgmulVv, VgmulVs}
use Rattle.vector_word.specs.declared.Fields.{Fields}
use Rattle.vector_listing.specs.declared.Third.{Third}
use Rattle.vector_listing.specs.declared.Third.TheVariants.{Vs1, Rs1}
use Rattle.vector_listing.specs.Listing.{TextsFit}
use Rattle.vector_listing.specs.Text.{ascii, mnemonic, digit, decimal, third_of, third, mask, text}

pub mnemonic-length : (k : Kind) → length (mnemonic k) ≤ 10
mnemonic-length VclmulVv = omega arith
mnemonic-length VclmulVx = omega arith
mnemonic-length VclmulhVv = omega arith
mnemonic-length VclmulhVx = omega arith
mnemonic-length VghshVv = omega arith
mnemonic-length VghshVs = omega arith
mnemonic-length VgmulVv = omega arith
mnemonic-length VgmulVs = omega arith

-- of two lists that are each short the one that is picked is
picked-length : (b : Bool) (xs ys : List ℕ) (n : ℕ) → length xs ≤ n → length ys ≤ n → length (cond b xs ys) ≤ n
picked-length true xs ys n hx hy = hx
picked-length false xs ys n hx hy = hy

pub decimal-length : (n : ℕ) → length (decimal n) ≤ 2
decimal-length n = picked-length (ltb n 10) (digit n ∷ []) (digit (n / 10) ∷ digit (n % 10) ∷ []) 2 (omega arith) (omega arith)

pub third-length : (t : Option Third) (n : ℕ) → length (third t n) ≤ 5
third-length (Some Vs1) n = omega (arith, decimal-length n)
third-length (Some Rs1) n = omega (arith, decimal-length n)
third-length None n = omega arith

mask-length : (vm : ℕ) → length (mask vm) ≤ 6
mask-length vm = picked-length (eqb vm 0) (ascii ", v0.t") [] 6 (omega arith) (omega arith)

pub text-length : (k : Kind) (f : Fields) → length (text k f) ≤ 30
unfolding text
text-length k f =
    let third' = third (third_of k) f.vs1 in
    let vd = ascii " v" ++ decimal f.vd in
    let vs2 = ascii ", v" ++ decimal f.vs2 in
    omega (
      arith,
      mnemonic-length k,
      decimal-length f.vd,
      decimal-length f.vs2,
      third-length (third_of k) f.vs1,
      mask-length f.vm,
      length-append (mnemonic k) (vd ++ (vs2 ++ (third' ++ mask f.vm))),
      length-append vd (vs2 ++ (third' ++ mask f.vm)),
      length-append vs2 (third' ++ mask f.vm),
      length-append third' (mask f.vm),
    )

pub texts-fit : TextsFit
texts-fit (Some i) = text-length i.kind i.fields
texts-fit None = omega arith
