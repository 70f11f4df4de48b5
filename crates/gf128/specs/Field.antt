-- The field of document 01, "The field and the hash": coefficients, times x, and the product bit by bit.
-- A block is a number below 2 ^ 128, its 16 bytes read big-endian, so coefficient 0 is its highest binary digit.
-- Each definition is over the last place `m` and the reduction constant `R`, and GHASH's follows: 127 and 0xE1 · 2 ^ 120.
-- Assumes nothing.
use Rattle.std.specs.Prelude.{ℕ, zero, suc, ◌-◌, ◌*◌, ◌/◌, ◌%◌, ◌^◌}
use Rattle.std.specs.Int.Bits.{bit_xor}

-- coefficient k of u, where m is the last place
unfoldable pub coeff_of : ℕ → ℕ → ℕ → ℕ
coeff_of m u k = u / 2 ^ (m - k) % 2

-- every coefficient moves one place up, place 0 gets 0, and R is added if the one from the last place was 1
unfoldable pub times_x_of : ℕ → ℕ → ℕ
times_x_of R v = bit_xor (v / 2) (v % 2 * R)

-- V after k steps: h times x, k times
unfoldable pub shifted_of : ℕ → ℕ → ℕ → ℕ
shifted_of R h zero = h
shifted_of R h (suc k) = times_x_of R (shifted_of R h k)

-- Z after k steps: if coefficient k of u is 1, Z := Z xor V
unfoldable pub sum_of : ℕ → ℕ → ℕ → ℕ → ℕ → ℕ
sum_of m R u h zero = 0
sum_of m R u h (suc k) = bit_xor (sum_of m R u h k) (coeff_of m u k * shifted_of R h k)

-- U·H: Z at the end, after all the places 0 to m
unfoldable pub product_of : ℕ → ℕ → ℕ → ℕ → ℕ
product_of m R u h = sum_of m R u h (suc m)

-- ---- GHASH's: x ^ 128 + x ^ 7 + x ^ 2 + x + 1, places 0, 1, 2 and 7

abbrev pub reduction : ℕ
reduction = 0xE1 * 2 ^ 120

-- coefficient k of a block
abbrev pub coefficient : ℕ → ℕ → ℕ
coefficient = coeff_of 127

abbrev pub times_x : ℕ → ℕ
times_x = times_x_of reduction

-- a block times x, k times
abbrev pub shifted : ℕ → ℕ → ℕ
shifted = shifted_of reduction

-- the product of a block and a key; every product of two 16-byte values is this one
abbrev pub product : ℕ → ℕ → ℕ
product = product_of 127 reduction

-- the one block, 80 then fifteen 00: coefficient 0 alone
abbrev pub one : ℕ
one = 2 ^ 127
