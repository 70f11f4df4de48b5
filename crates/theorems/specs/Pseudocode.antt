-- The pseudocode of source 000 (vghsh.vv) and source 002 (vclmul, vclmulh, vghsh.vs, vgmul.vs), line by line and under its names; and
-- what an executed word has to do with it (`FollowsPseudocode`, `ElementsFollowPseudocode`). A value of type bits(n) is a number below
-- 2 ^ n. Where document 01 decides otherwise, a comment says so at that line.
-- Assumes nothing.
use Rattle.std.specs.Prelude.{ℕ, zero, suc, ◌+◌, ◌-◌, ◌*◌, ◌/◌, ◌%◌, ◌^◌, ◌<◌, ◌≤◌, Bool, true, cond, List, ◌≡◌, eqb, length, Some}
use Rattle.std.specs.Int.Bits.{bit_xor}
use Rattle.octets.specs.Bytes.{AreBytes}
use Rattle.vector_registers.specs.declared.settings.Settings.{Settings}
use Rattle.vector_registers.specs.Settings.{register_bytes}
use Rattle.vector_word.specs.declared.Fields.{Fields}
use Rattle.vector_kind.specs.declared.Kind.{Kind}
use Rattle.vector_kind.specs.declared.Kind.TheVariants.{VclmulVv, VclmulVx, VclmulhVv, VclmulhVx, VghshVv, VghshVs, VgmulVv, VgmulVs}
use Rattle.vector_word.specs.Word.{decode, instruction}
use Rattle.vector_kind.specs.Kinds.{is_ghash}
use Rattle.vector_refusal.specs.Refusal.{refusal_of}
use Rattle.octets.specs.LittleEndian.{read_le, write_le}
use Rattle.vector_element.specs.Element.{active}
use Rattle.vector_fill.specs.Fill.{filled}
use Rattle.vector_execute.specs.Execute.{executed}
use Rattle.theorems.specs.Execution.{first_unit, past_unit, active_unit}

-- ---- what the texts are written in

-- x[i]
infix 60 ◌!◌
abbrev pub ◌!◌ : ℕ → ℕ → ℕ
x ! i = x / 2 ^ i % 2

abbrev pub bit_to_bool : ℕ → Bool
bit_to_bool b = eqb b 1

-- x ^ y
infixl 50 ◌xor◌
abbrev pub ◌xor◌ : ℕ → ℕ → ℕ
x xor y = bit_xor x y

-- x << i, where x has n bits, and x >> i
abbrev pub shl : ℕ → ℕ → ℕ → ℕ
shl n x i = x * 2 ^ i % 2 ^ n

abbrev pub shr : ℕ → ℕ → ℕ
shr x i = x / 2 ^ i

-- n turns of a loop, from i on
unfoldable pub turns : {A : Type 0} → (ℕ → A → A) → ℕ → ℕ → A → A
turns body zero i a = a
turns body (suc n) i a = turns body n (i + 1) (body i a)

-- foreach (i from `first` to `past` - 1) { .. }; none where `past` is at or below `first`
abbrev pub foreach : {A : Type 0} → ℕ → ℕ → (ℕ → A → A) → A → A
foreach first past body a = turns body (past - first) first a

-- the low n bits in the other order
unfoldable pub reversed : ℕ → ℕ → ℕ
reversed zero x = 0
reversed (suc n) x = x % 2 * 2 ^ n + reversed n (x / 2)

-- the bits of each byte in the other order, byte by byte, in n bytes
unfoldable pub brev8_of : ℕ → ℕ → ℕ
brev8_of zero x = 0
brev8_of (suc n) x = brev8_of n (x / 256) * 256 + reversed 8 (x % 256)

-- of bits(128)
abbrev pub brev8 : ℕ → ℕ
brev8 = brev8_of 16

-- ---- the register file

-- element i of `width` bits of the register group at v, its low byte first: an element where width is SEW, an element group where it is
-- EGW
abbrev pub get_velem : Settings → List ℕ → ℕ → ℕ → ℕ → ℕ
get_velem s file v width i = read_le file (v * register_bytes s.vlen + i * (width / 8)) (width / 8)

abbrev pub set_velem : Settings → List ℕ → ℕ → ℕ → ℕ → ℕ → List ℕ
set_velem s file v width i value = write_le (width / 8) file (v * register_bytes s.vlen + i * (width / 8)) value

-- X(r), where the scalar is what the register holds; register 0 is zero. Document 01: if rs1 is field 0 the scalar counts as zero
abbrev pub «X» : ℕ → ℕ → ℕ
«X» scalar r = cond (eqb r 0) 0 scalar

abbrev pub zext_or_truncate_to_sew : Settings → ℕ → ℕ
zext_or_truncate_to_sew s x = x % 2 ^ s.sew

-- ---- vclmul and vclmulh: source 002
-- Document 01: SEW is 8, 16, 32 or 64, else the word is refused. The name clmul is the source's: a product of `width` bits, where
-- vector_product's clmul is the whole product.

-- function clmul(x, y, width) = {
--   let result : bits(width) = zeros();
--   foreach (i from 0 to (width - 1)) {
--     if y[i] == 1 then result = result ^ (x << i);
--   }
--   result
unfoldable pub clmul : ℕ → ℕ → ℕ → ℕ
clmul x y width =
    foreach 0 width (λ i result.
    cond (eqb (y ! i) 1) (result xor shl width x i) result)
    0

-- function clmulh(x, y, width) = {
--   let result : bits(width) = 0;
--   foreach (i from 1 to (width - 1)) {
--     if y[i] == 1 then result = result ^ (x >> (width - i));
--   }
--   result
unfoldable pub clmulh : ℕ → ℕ → ℕ → ℕ
clmulh x y width =
    foreach 1 width (λ i result.
    cond (eqb (y ! i) 1) (result xor shr x (width - i)) result)
    0

pub data Suffix : Type 0 where
  vv : Suffix
  vx : Suffix

-- if suffix == "vv" then .. else ..
abbrev pub if_vv : Suffix → ℕ → ℕ → ℕ
if_vv vv a b = a
if_vv vx a b = b

-- function clause execute (VCLMUL(vs2, vs1, vd, suffix)) = {
unfoldable pub VCLMUL : Suffix → Fields → Settings → ℕ → List ℕ → List ℕ
VCLMUL suffix f s scalar file =
    -- foreach (i from vstart to vl-1) {
    foreach s.vstart s.vl (λ i file.
    -- document 01: with vm 0 only elements whose mask bit is 1 are written
    cond (active f file i) (
    let op1 = if_vv suffix (get_velem s file f.vs1 s.sew i) (zext_or_truncate_to_sew s («X» scalar f.vs1)) in
    let op2 = get_velem s file f.vs2 s.sew i in
    let product = clmul op1 op2 s.sew in
    set_velem s file f.vd s.sew i product
    ) file) file

-- function clause execute (VCLMULH(vs2, vs1, vd, suffix)) = {
unfoldable pub VCLMULH : Suffix → Fields → Settings → ℕ → List ℕ → List ℕ
VCLMULH suffix f s scalar file =
    -- foreach (i from vstart to vl-1) {
    foreach s.vstart s.vl (λ i file.
    -- document 01: as above
    cond (active f file i) (
    let op1 = if_vv suffix (get_velem s file f.vs1 s.sew i) (zext_or_truncate_to_sew s («X» scalar f.vs1)) in
    let op2 = get_velem s file f.vs2 s.sew i in
    let product = clmulh op1 op2 s.sew in
    set_velem s file f.vd s.sew i product
    ) file) file

-- ---- vghsh and vgmul: source 000 for vghsh.vv, source 002 for vghsh.vs and vgmul.vs
-- Document 01: SEW is 32 and vl and vstart are multiples of EGS, else the word is refused. LMUL*VLEN < EGW, which the texts refuse first,
-- never holds where LMUL and VLEN are allowed.

abbrev pub EGW : ℕ
EGW = 128

abbrev pub EGS : ℕ
EGS = 4

abbrev pub eg_len : Settings → ℕ
eg_len s = s.vl / EGS

abbrev pub eg_start : Settings → ℕ
eg_start s = s.vstart / EGS

-- the inner loop, which is the same text in all three: its two variables, and a turn
pub record ZH : Type 0 where
  pub «Z» : ℕ
  pub «H» : ℕ

-- for (int bit = 0; bit < 128; bit++) {
--   if bit_to_bool(S[bit])
--     Z ^= H
--   bool reduce = bit_to_bool(H[127]);
--   H = H << 1;
--   if (reduce)
--     H ^= 0x87;
-- }
abbrev pub for_bit : ℕ → ℕ → ZH → ZH
for_bit S bit v =
    let Z₁ = cond (bit_to_bool (S ! bit)) (v.«Z» xor v.«H») v.«Z» in
    let reduce = bit_to_bool (v.«H» ! 127) in
    let H₁ = shl 128 v.«H» 1 in
    let H₂ = cond reduce (H₁ xor 0x87) H₁ in
    record { «Z» = Z₁; «H» = H₂ }

-- Z at the end, from Z = 0
unfoldable pub multiplied : ℕ → ℕ → ℕ
multiplied S H = (foreach 0 128 (for_bit S) (record { «Z» = 0; «H» = H })).«Z»

-- function clause execute (VGHSH(vs2, vs1, vd)) = {
unfoldable pub VGHSH : Fields → Settings → List ℕ → List ℕ
VGHSH f s file =
    -- foreach (i from eg_start to eg_len-1) {
    foreach (eg_start s) (eg_len s) (λ i file.
    let Y = get_velem s file f.vd EGW i in
    let X = get_velem s file f.vs1 EGW i in
    let H = brev8 (get_velem s file f.vs2 EGW i) in
    let S = brev8 (Y xor X) in
    let Z = multiplied S H in
    let result = brev8 Z in
    set_velem s file f.vd EGW i result
    ) file

-- function clause execute (VGHSHVS(vs2, vs1, vd)) = {
unfoldable pub VGHSHVS : Fields → Settings → List ℕ → List ℕ
VGHSHVS f s file =
    -- H is common to all element groups. Document 01: it is read once before any write
    let helem : ℕ = 0 in
    let Hinit = brev8 (get_velem s file f.vs2 EGW helem) in
    -- foreach (i from eg_start to eg_len-1) {
    foreach (eg_start s) (eg_len s) (λ i file.
    let Y = get_velem s file f.vd EGW i in
    let X = get_velem s file f.vs1 EGW i in
    let H = Hinit in
    let S = brev8 (Y xor X) in
    let Z = multiplied S H in
    let result = brev8 Z in
    set_velem s file f.vd EGW i result
    ) file

-- function clause execute (VGMUL(vs2, vs1, vd, suffix)) = {
unfoldable pub VGMUL : Fields → Settings → List ℕ → List ℕ
VGMUL f s file =
    -- H multiplicand is common for all loop iterations. Document 01: as above
    let helem : ℕ = 0 in
    let Hinit = brev8 (get_velem s file f.vs2 EGW helem) in
    -- foreach (i from eg_start to eg_len-1) {
    foreach (eg_start s) (eg_len s) (λ i file.
    let Y = brev8 (get_velem s file f.vd EGW i) in
    let H = Hinit in
    let Z = multiplied Y H in
    let result = brev8 Z in
    set_velem s file f.vd EGW i result
    ) file

-- vgmul.vv, whose text is in the ratified specification alone: vgmul.vs's loop, with H read anew in each element group
unfoldable pub VGMULVV : Fields → Settings → List ℕ → List ℕ
VGMULVV f s file =
    -- foreach (i from eg_start to eg_len-1) {
    foreach (eg_start s) (eg_len s) (λ i file.
    let Y = brev8 (get_velem s file f.vd EGW i) in
    let H = brev8 (get_velem s file f.vs2 EGW i) in
    let Z = multiplied Y H in
    let result = brev8 Z in
    set_velem s file f.vd EGW i result
    ) file

-- ---- the statements

-- what a word of a kind does
abbrev pub pseudocode : Kind → Fields → Settings → ℕ → List ℕ → List ℕ
pseudocode VclmulVv f s scalar file = VCLMUL vv f s scalar file
pseudocode VclmulVx f s scalar file = VCLMUL vx f s scalar file
pseudocode VclmulhVv f s scalar file = VCLMULH vv f s scalar file
pseudocode VclmulhVx f s scalar file = VCLMULH vx f s scalar file
pseudocode VghshVv f s scalar file = VGHSH f s file
pseudocode VghshVs f s scalar file = VGHSHVS f s file
pseudocode VgmulVv f s scalar file = VGMULVV f s file
pseudocode VgmulVs f s scalar file = VGMUL f s file

-- a word that is not refused, on a file, which is bytes, leaves the file that the pseudocode leaves, filled by the policies (document 02,
-- Ask 5)
abbrev pub FollowsPseudocode : Type 0
FollowsPseudocode =
    (word : ℕ) (s : Settings) (scalar : ℕ) (file : List ℕ) → AreBytes file → refusal_of (length file) word s ≡ 0
    → (k : Kind) (f : Fields) → decode word ≡ Some (instruction k f) → executed word s scalar file ≡ filled f s (pseudocode k f s scalar file)

-- the bits of an element, or of an element group, of a word of a kind
abbrev pub width_of : Kind → Settings → ℕ
width_of k s = cond (is_ghash k) EGW s.sew

-- what the pseudocode gives for element or element group i, from a file
abbrev pub given : Kind → Fields → Settings → ℕ → List ℕ → ℕ → ℕ
given VclmulVv f s scalar file i = clmul (get_velem s file f.vs1 s.sew i) (get_velem s file f.vs2 s.sew i) s.sew
given VclmulVx f s scalar file i = clmul (zext_or_truncate_to_sew s («X» scalar f.vs1)) (get_velem s file f.vs2 s.sew i) s.sew
given VclmulhVv f s scalar file i = clmulh (get_velem s file f.vs1 s.sew i) (get_velem s file f.vs2 s.sew i) s.sew
given VclmulhVx f s scalar file i = clmulh (zext_or_truncate_to_sew s («X» scalar f.vs1)) (get_velem s file f.vs2 s.sew i) s.sew
given VghshVv f s scalar file i =
    brev8 (multiplied (brev8 (get_velem s file f.vd EGW i xor get_velem s file f.vs1 EGW i)) (brev8 (get_velem s file f.vs2 EGW i)))
given VghshVs f s scalar file i =
    brev8 (multiplied (brev8 (get_velem s file f.vd EGW i xor get_velem s file f.vs1 EGW i)) (brev8 (get_velem s file f.vs2 EGW 0)))
given VgmulVv f s scalar file i = brev8 (multiplied (brev8 (get_velem s file f.vd EGW i)) (brev8 (get_velem s file f.vs2 EGW i)))
given VgmulVs f s scalar file i = brev8 (multiplied (brev8 (get_velem s file f.vd EGW i)) (brev8 (get_velem s file f.vs2 EGW 0)))

-- and each active element or element group in range holds what the pseudocode gives from the file at entry
abbrev pub ElementsFollowPseudocode : Type 0
ElementsFollowPseudocode =
    (word : ℕ) (s : Settings) (scalar : ℕ) (file : List ℕ) → AreBytes file → refusal_of (length file) word s ≡ 0
    → (k : Kind) (f : Fields) → decode word ≡ Some (instruction k f)
    → (i : ℕ) → first_unit k s ≤ i → i < past_unit k s → active_unit k f file i ≡ true
    → get_velem s (executed word s scalar file) f.vd (width_of k s) i ≡ given k f s scalar file i
