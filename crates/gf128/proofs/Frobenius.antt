-- GHASH's field: 128 squarings bring every block back (`squares-back`), and only zero and one are their own squares (`own-squares`).
-- Three computed facts carry it, each at x or at its powers, places 0 to 127: a quick squaring is the squaring; 128 of them bring x
-- back; v xor its square tells v. What holds at the powers holds at every block, since both sides are additive. Assumes nothing.
use mathlib.Core.Path.{◌≡◌, refl, sym, ap, ap₂, ◌∙◌, subst, subst₂}
use mathlib.Core.Bool.{Bool, true, ◌&&◌}
use mathlib.Core.List.{List, [], ◌∷◌}
use mathlib.Core.Logic.{◌⊎◌, inl, inr}
use Prim.Native.Nat.{ℕ, zero, suc, ◌+◌, ◌-◌, ◌*◌, ◌/◌, ◌%◌, ◌^◌, ◌<◌, ◌≤◌}
use native.Mathlib.Nat.{div-one, zero-mul, one-mul, add-zero, suc-add, add-suc, mul_comm, le_of_suc-le-suc, not-suc-le-zero}
use native.Mathlib.Numerals.{one-add}
use native.Mathlib.Omega.{arith}
use lib.Bits.{bit_xor, xor_block, xor_self, xor_shr, xor_mod}
use lib.Dec.{T, eqb, eqb→eq, lit<}
use lib.Pow.{pow-add, shr-shr, shl-shr, shr_lt, split}
use Rattle.gf128.specs.Field.{times_x_of, times_x, shifted_of, shifted, reduction, one}
use Rattle.gf128.proofs.Computed.{quick_x_of, quick_x-times_x}
use Rattle.gf128.proofs.Xor.{xor-half, xor-odd, xor-shl, xor-swap4}
use Rattle.gf128.proofs.Places.{reduction-lt, digit-ind, digit-xor, mod2-lt, shifted_of-add, shifted_of-times_x}
use Rattle.gf128.proofs.Nibbles.{shifted_of-one, product_of-place}
use Rattle.gf128.proofs.Ring.{additive-same}
use Rattle.gf128.proofs.Tests.{and_left, and_right}
use Rattle.gf128.proofs.Squaring.{square_of, squares_of, square-xor, squares-lt, squares-identity}

abbrev square : ℕ → ℕ
square = square_of 127 reduction

-- ---- additive maps that compute fast

abbrev Additive : (ℕ → ℕ) → Type 0
Additive f = (a b : ℕ) → f (bit_xor a b) ≡ bit_xor (f a) (f b)

both-additive : (f g : ℕ → ℕ) → Additive f → Additive g → Additive (λ u. bit_xor (f u) (g u))
both-additive f g fx gx a b = ap₂ bit_xor (fx a b) (gx a b) ∙ xor-swap4 (f a) (f b) (g a) (g b)

after-additive : (f g : ℕ → ℕ) → Additive f → Additive g → Additive (λ u. f (g u))
after-additive f g fx gx a b = ap f (gx a b) ∙ fx (g a) (g b)

-- the n low digits of u, moved from place i to place 2 i
spread : ℕ → ℕ → ℕ
spread zero u = 0
spread (suc n) u = spread n (u / 2) * 4 + u % 2

spread-additive : (n : ℕ) → Additive (spread n)
unfolding spread
spread-additive zero a b = refl
spread-additive (suc n) a b =
    ap₂ (λ (x y : ℕ). x * 4 + y) (ap (spread n) (xor-half a b) ∙ spread-additive n (a / 2) (b / 2)) (xor-odd a b)
    ∙ sym (xor_block 2 (spread n (a / 2)) (spread n (b / 2)) (a % 2) (b % 2) (lt4 a) (lt4 b))
  where
    lt4 : (a : ℕ) → a % 2 < 4
    lt4 a = omega arith

-- the sum of the constants that u's digits pick, the lowest digit first
picked : List ℕ → ℕ → ℕ
picked [] u = 0
picked (c ∷ cs) u = bit_xor (u % 2 * c) (picked cs (u / 2))

picked-additive : (cs : List ℕ) → Additive (picked cs)
unfolding picked
picked-additive [] a b = refl
picked-additive (c ∷ cs) a b =
    ap₂ bit_xor (ap (λ (x : ℕ). x * c) (xor-odd a b) ∙ digit-xor (a % 2) (b % 2) c (mod2-lt a) (mod2-lt b))
    (ap (picked cs) (xor-half a b) ∙ picked-additive cs (a / 2) (b / 2))
    ∙ xor-swap4 (a % 2 * c) (b % 2 * c) (picked cs (a / 2)) (picked cs (b / 2))

-- u squared: the first 64 coefficients at the even places, the others at these times 1 + x + x ^ 2 + x ^ 7, of which the last three
-- digits pass place 127 and come back reduced
low : ℕ → ℕ
low u = u % 2 ^ 64

evens : ℕ → ℕ
evens u = bit_xor (u / 2 ^ 64) (bit_xor (low u) (low u / 2))

odds : ℕ → ℕ
odds u = bit_xor (low u) (low u / 8)

carries : List ℕ
carries = 0x1CC1 ∷ 0x384 ∷ 0xE10 ∷ []

quick : ℕ → ℕ
quick u = bit_xor (spread 64 (evens u) * 2) (bit_xor (picked carries u * 2 ^ 115) (spread 64 (odds u)))

quick-additive : Additive quick
unfolding quick evens odds low
quick-additive =
    both-additive (λ u. spread 64 (evens u) * 2) (λ u. bit_xor (picked carries u * 2 ^ 115) (spread 64 (odds u)))
    (after-additive (λ u. u * 2) (λ u. spread 64 (evens u)) (λ a b. xor-shl a b 1)
    (after-additive (spread 64) evens (spread-additive 64)
    (both-additive (λ u. u / 2 ^ 64) (λ u. bit_xor (low u) (low u / 2)) (λ a b. xor_shr a b 64)
    (both-additive low (λ u. low u / 2) low-additive (after-additive (λ u. u / 2) low xor-half low-additive)))))
    (both-additive (λ u. picked carries u * 2 ^ 115) (λ u. spread 64 (odds u))
    (after-additive (λ u. u * 2 ^ 115) (picked carries) (λ a b. xor-shl a b 115) (picked-additive carries))
    (after-additive (spread 64) odds (spread-additive 64)
    (both-additive low (λ u. low u / 8) low-additive (after-additive (λ u. u / 8) low (λ a b. xor_shr a b 3) low-additive))))
  where
    low-additive : (a b : ℕ) → (bit_xor a b) % 2 ^ 64 ≡ bit_xor (a % 2 ^ 64) (b % 2 ^ 64)
    low-additive a b = xor_mod a b 64

-- ---- a test at every power of x and its square

abbrev quick_x : ℕ → ℕ
quick_x = quick_x_of reduction

along : ℕ → (ℕ → ℕ → Bool) → ℕ → ℕ → Bool
along zero p v w = true
along (suc n) p v w = p v w && along n p (v / 2) (quick_x (quick_x w))

along-at : (n : ℕ) (p : ℕ → ℕ → Bool) (v w : ℕ) → T (along n p v w) → (k : ℕ) → k < n → T (p (v / 2 ^ k) (shifted w (k + k)))
unfolding along shifted_of
along-at zero p v w t k h = absurd (not-suc-le-zero h)
along-at (suc n) p v w t zero h = subst (λ (x : ℕ). T (p x w)) (sym (div-one v)) (and_left (p v w) (along n p (v / 2) (quick_x (quick_x w))) t)
along-at (suc n) p v w t (suc k) h =
    subst₂ (λ (x y : ℕ). T (p x y)) (shr-shr v 1 k ∙ ap (λ (x : ℕ). v / 2 ^ x) (one-add k))
    (ap (λ (x : ℕ). shifted x (k + k)) (quick_x-times_x reduction (quick_x w) ∙ ap times_x (quick_x-times_x reduction w))
    ∙ shifted_of-times_x reduction (times_x w) (k + k)
    ∙ ap times_x (shifted_of-times_x reduction w (k + k))
    ∙ ap (shifted w) (sym (suc-add k (suc k) ∙ ap suc (add-suc k k))))
    (along-at n p (v / 2) (quick_x (quick_x w)) (and_right (p v w) (along n p (v / 2) (quick_x (quick_x w))) t) k (le_of_suc-le-suc h))

power-down : (m k d : ℕ) → k + d ≡ m → 2 ^ m / 2 ^ k ≡ 2 ^ d
power-down m k d e =
    ap (λ (x : ℕ). x / 2 ^ k) (ap (λ (x : ℕ). 2 ^ x) (sym e) ∙ pow-add 2 k d ∙ mul_comm (2 ^ k) (2 ^ d)) ∙ shl-shr (2 ^ d) k

square-power : (m R k d : ℕ) → k + d ≡ m → shifted_of R (2 ^ m) (k + k) ≡ square_of m R (2 ^ d)
unfolding square_of
square-power m R k d e =
    shifted_of-add R (2 ^ m) k k ∙ ap (λ (x : ℕ). shifted_of R x k) (shifted_of-one R m k d e) ∙ sym (product_of-place m R k d (2 ^ d) e)

at-powers : (p : ℕ → ℕ → Bool) → T (along 128 p one one) → (d : ℕ) → d ≤ 127 → T (p (2 ^ d) (square (2 ^ d)))
at-powers p t d l =
    let e : 127 - d + d ≡ 127 = omega arith in
    subst₂ (λ (x y : ℕ). T (p x y)) (power-down 127 (127 - d) d e) (square-power 127 reduction (127 - d) d e)
    (along-at 128 p one one t (127 - d) (omega arith))

-- ---- the first fact: the quick squaring agrees with the squaring at the powers of x

quick-powers : (d : ℕ) → d ≤ 127 → quick (2 ^ d) ≡ square (2 ^ d)
unfolding along quick evens odds low spread picked carries quick_x_of
quick-powers d l = eqb→eq (quick (2 ^ d)) (square (2 ^ d)) (at-powers (λ v w. eqb (quick v) w) tt d l)

quick-square : (u : ℕ) → u < 2 ^ 128 → quick u ≡ square u
quick-square = additive-same 127 quick square (λ a b ha hb. quick-additive a b) (square-xor 127 reduction reduction-lt) quick-powers

-- ---- the second fact: 128 squarings bring x back

quicks : ℕ → ℕ → ℕ
quicks zero u = u
quicks (suc n) u = quick (quicks n u)

quicks-squares : (n u : ℕ) → u < 2 ^ 128 → quicks n u ≡ squares_of 127 reduction n u
unfolding quicks squares_of
quicks-squares zero u h = refl
quicks-squares (suc n) u h =
    ap quick (quicks-squares n u h) ∙ quick-square (squares_of 127 reduction n u) (squares-lt 127 reduction reduction-lt n u h)

quicks-back : quicks 128 (2 ^ 126) ≡ 2 ^ 126
unfolding quicks quick evens odds low spread picked carries
quicks-back = refl

x-power : times_x one ≡ 2 ^ 126
unfolding times_x_of
x-power = refl

pub squares-back : (u : ℕ) → u < 2 ^ 128 → squares_of 127 reduction 128 u ≡ u
squares-back =
    squares-identity 127 reduction reduction-lt 128
    (ap (squares_of 127 reduction 128) x-power ∙ sym (quicks-squares 128 (2 ^ 126) (lit< tt)) ∙ quicks-back ∙ sym x-power)

-- ---- the third fact: v xor its square tells v, but for coefficient 0

-- what each digit of v xor its square adds to v, the lowest digit first: found by elimination, and right by the test below
solved : List ℕ
solved =
    0x0 ∷ 0x4a2ade42a1db558927495c4d4e62fc1 ∷ 0x35bd0e43ef6cf78dcef750ee63bd3171 ∷ 0x41d77801d619af2a38dab35b297373a6 ∷
    0x36dc3b3404788e15d4cfd6f8f5447461 ∷ 0x7adc3b3404788e15d4cfd6f8f5447467 ∷ 0x5f67891c31b7edb03c86875f90384d1c ∷ 0x646cca29e3d6cc8fd093e2fc4c0f4ad5 ∷
    0x51eae8be2fe60df61bf9191de1788d94 ∷ 0x36e717e02724b8e1d1527df73b8e8241 ∷ 0x5f86cdbc744e28fe3430f49ddf071154 ∷ 0x2561da5c536a901fe562896ae4899333 ∷
    0x99a6e1cca2f8641a0b0910804c90841 ∷ 0x2cfbb4409945165e45d21862e0409b32 ∷ 0xd94d9da18080030c4db699e5dc0 ∷ 0x197d9b438cafcf2f8e88275824a90133 ∷
    0x645919a4b35879f7d7a68d71cb5770d5 ∷ 0x7348a7e5645f93d076e747a9d181ec26 ∷ 0x602105ae977251e64834e0c2dd2d5a94 ∷ 0x2c14dbb71e26fc964f314b9433eb3eb2 ∷
    0x44eaa59bd8819a999287fa5ed58ad81 ∷ 0x77dcb1c60e3ad5c9e2190477682adba7 ∷ 0x701c741cbd9fc8b06b94eadf79b8c426 ∷ 0x46f806225397f491bb49eab33e4cf467 ∷
    0x79b07befedd921e9cd751ec18ebeebe7 ∷ 0x56f3167fe31302df9eb885b869165d55 ∷ 0x6462e2cc93c28627d2d0526e0d66c2d5 ∷ 0x1a24eaaa541c8b0f9092b01169688933 ∷
    0x4bf6a9a1f02e1f698fec4b1a74166be7 ∷ 0x21ce3a83c07744de74dad50f0d583b32 ∷ 0x634efa836deeebf650dae654442b4894 ∷ 0x224d20acccef41ee67fd0ac2e3641972 ∷
    0x4bf8b9d33b8f38198de17cdee54751e7 ∷ 0x698e6217d7fa8627ef6aa903c013fa95 ∷ 0x457534e82f16f649aa2d862c91005ba7 ∷ 0x144558bb6c9dfcd7bc4c239cf48626f3 ∷
    0x3cfddc25f2ae2df86391fd8d3387a7c0 ∷ 0x2bd77bb364af6b3fc733d8875e039333 ∷ 0x26d44eb77ddd535ff0b1c738de72bb33 ∷ 0x6aef57603cdbfceff55228f556d54755 ∷
    0x285aabc679b16ad7d6c2852abfdb1eb3 ∷ 0x38e6217d7f479d8109554569546afc0 ∷ 0x79880aa666d696d9c926622882fff1e7 ∷ 0x312705524db61730583bcf844c342240 ∷
    0x5c33b52f8947e9462158188b7248d294 ∷ 0x3bdc8ad604b36599e246fae899f68fc1 ∷ 0x72ccff3fd3d186182e1ce9a41041041 ∷ 0x5252e8c1d3a8e3be0d2c5beb59e57554 ∷
    0x489a0b11781e0c1196cc4fdebc394c27 ∷ 0x1af0929920b9589f9fb368dce89d2373 ∷ 0x2f76850d57908a5e54a716d46cf0bb32 ∷ 0x3f46b4c41d7d395874f4e33b9d331780 ∷
    0x7986f6afcfc951e9cb9188c1a5beebe7 ∷ 0x258e6f54bc4bf6f7ef54f70e70ef2ef3 ∷ 0x55aabdbeec28a2078079924a4cd2f295 ∷ 0x229a33517c61d3ee69739a8be16c1972 ∷
    0x49a065cd7758d5196f0e3578d383201 ∷ 0x428019a10caacb8824c8241264b2fba6 ∷ 0x4622ba58b211bb21b69fb337b1785627 ∷ 0x5cea6fd5b105659e2d1ccaeb5d2c7d54 ∷
    0x36e9eb0be64d6b99d3ec2e5e502bb781 ∷ 0x5ce7c3e3d68e47f62e5390ab45fe70d4 ∷ 0x329f337db88e12004e8e904902080000 ∷ 0x48afd66e759a994991d0e977a9aa5ba7 ∷
    0x4a2ade42a1db559927495c4d4e62fc1 ∷ 0x41d77801d619af2838dab35b297373a6 ∷ 0x7adc3b3404788e11d4cfd6f8f5447467 ∷ 0x646cca29e3d6cc87d093e2fc4c0f4ad5 ∷
    0x36e717e02724b8f1d1527df73b8e8241 ∷ 0x2561da5c536a903fe562896ae4899333 ∷ 0x2cfbb4409945161e45d21862e0409b32 ∷ 0x197d9b438cafcfaf8e88275824a90133 ∷
    0x7348a7e5645f92d076e747a9d181ec26 ∷ 0x2c14dbb71e26fe964f314b9433eb3eb2 ∷ 0x77dcb1c60e3ad1c9e2190477682adba7 ∷ 0x46f806225397fc91bb49eab33e4cf467 ∷
    0x56f3167fe31312df9eb885b869165d55 ∷ 0x1a24eaaa541cab0f9092b01169688933 ∷ 0x21ce3a83c07704de74dad50f0d583b32 ∷ 0x224d20acccefc1ee67fd0ac2e3641972 ∷
    0x698e6217d7fb8627ef6aa903c013fa95 ∷ 0x144558bb6c9ffcd7bc4c239cf48626f3 ∷ 0x2bd77bb364ab6b3fc733d8875e039333 ∷ 0x6aef57603cd3fceff55228f556d54755 ∷
    0x38e6217d7e479d8109554569546afc0 ∷ 0x312705524d961730583bcf844c342240 ∷ 0x3bdc8ad604f36599e246fae899f68fc1 ∷ 0x5252e8c1d328e3be0d2c5beb59e57554 ∷
    0x1af0929921b9589f9fb368dce89d2373 ∷ 0x3f46b4c41f7d395874f4e33b9d331780 ∷ 0x258e6f54b84bf6f7ef54f70e70ef2ef3 ∷ 0x229a33517461d3ee69739a8be16c1972 ∷
    0x428019a11caacb8824c8241264b2fba6 ∷ 0x5cea6fd59105659e2d1ccaeb5d2c7d54 ∷ 0x5ce7c3e3968e47f62e5390ab45fe70d4 ∷ 0x48afd66ef59a994991d0e977a9aa5ba7 ∷
    0x41d77800d619af2838dab35b297373a6 ∷ 0x646cca2be3d6cc87d093e2fc4c0f4ad5 ∷ 0x2561da58536a903fe562896ae4899333 ∷ 0x197d9b4b8cafcfaf8e88275824a90133 ∷
    0x2c14dba71e26fe964f314b9433eb3eb2 ∷ 0x46f806025397fc91bb49eab33e4cf467 ∷ 0x1a24eaea541cab0f9092b01169688933 ∷ 0x224d202cccefc1ee67fd0ac2e3641972 ∷
    0x144559bb6c9ffcd7bc4c239cf48626f3 ∷ 0x6aef55603cd3fceff55228f556d54755 ∷ 0x312701524d961730583bcf844c342240 ∷ 0x5252e0c1d328e3be0d2c5beb59e57554 ∷
    0x3f46a4c41f7d395874f4e33b9d331780 ∷ 0x229a13517461d3ee69739a8be16c1972 ∷ 0x5cea2fd59105659e2d1ccaeb5d2c7d54 ∷ 0x48af566ef59a994991d0e977a9aa5ba7 ∷
    0x646dca2be3d6cc87d093e2fc4c0f4ad5 ∷ 0x197f9b4b8cafcfaf8e88275824a90133 ∷ 0x46fc06025397fc91bb49eab33e4cf467 ∷ 0x2245202cccefc1ee67fd0ac2e3641972 ∷
    0x6aff55603cd3fceff55228f556d54755 ∷ 0x5272e0c1d328e3be0d2c5beb59e57554 ∷ 0x22da13517461d3ee69739a8be16c1972 ∷ 0x482f566ef59a994991d0e977a9aa5ba7 ∷
    0x187f9b4b8cafcfaf8e88275824a90133 ∷ 0x2045202cccefc1ee67fd0ac2e3641972 ∷ 0x5672e0c1d328e3be0d2c5beb59e57554 ∷ 0x402f566ef59a994991d0e977a9aa5ba7 ∷
    0x3045202cccefc1ee67fd0ac2e3641972 ∷ 0x602f566ef59a994991d0e977a9aa5ba7 ∷ 0x202f566ef59a994991d0e977a9aa5ba7 ∷ 0x10d04d25f93556e69f58ce2f8d035a94 ∷ []

solve : ℕ → ℕ
solve u = picked solved u

solve-additive : Additive solve
unfolding solve
solve-additive = picked-additive solved

solve-zero : solve 0 ≡ 0
solve-zero = solve-additive 0 0 ∙ xor_self (solve 0)

solve-powers : (d : ℕ) → d ≤ 127 → solve (bit_xor (2 ^ d) (square (2 ^ d))) ≡ 2 ^ d % 2 ^ 127
unfolding along quick_x_of solve solved picked
solve-powers d l =
    eqb→eq (solve (bit_xor (2 ^ d) (square (2 ^ d)))) (2 ^ d % 2 ^ 127) (at-powers (λ v w. eqb (solve (bit_xor v w)) (v % 2 ^ 127)) tt d l)

solve-square : (v : ℕ) → v < 2 ^ 128 → solve (bit_xor v (square v)) ≡ v % 2 ^ 127
solve-square =
    additive-same 127 (λ v. solve (bit_xor v (square v))) (λ v. v % 2 ^ 127)
    (λ a b ha hb.
    ap (λ (x : ℕ). solve (bit_xor (bit_xor a b) x)) (square-xor 127 reduction reduction-lt a b ha hb)
    ∙ ap solve (xor-swap4 a b (square a) (square b))
    ∙ solve-additive (bit_xor a (square a)) (bit_xor b (square b)))
    (λ a b ha hb. xor_mod a b 127) solve-powers

-- a number with no digit below m
top-only : (m e : ℕ) → e < 2 ^ suc m → e % 2 ^ m ≡ 0 → (e ≡ 0) ⊎ (e ≡ 2 ^ m)
top-only m e l z =
    subst (λ (x : ℕ). (x ≡ 0) ⊎ (x ≡ 2 ^ m)) whole
    (digit-ind (λ c. (c * 2 ^ m ≡ 0) ⊎ (c * 2 ^ m ≡ 2 ^ m)) (inl (zero-mul (2 ^ m))) (inr (one-mul (2 ^ m))) (e / 2 ^ m) digit)
  where
    whole : e / 2 ^ m * 2 ^ m ≡ e
    whole = sym (add-zero (e / 2 ^ m * 2 ^ m)) ∙ ap (λ (x : ℕ). e / 2 ^ m * 2 ^ m + x) (sym z) ∙ split e m

    digit : e / 2 ^ m < 2
    digit = shr_lt 1 m (subst (λ (x : ℕ). e < 2 ^ x) (sym (one-add m)) l)

pub own-squares : (e : ℕ) → e < 2 ^ 128 → square_of 127 reduction e ≡ e → (e ≡ 0) ⊎ (e ≡ one)
own-squares e l own =
    top-only 127 e l (sym (solve-square e l) ∙ ap (λ (x : ℕ). solve (bit_xor e x)) own ∙ ap solve (xor_self e) ∙ solve-zero)
