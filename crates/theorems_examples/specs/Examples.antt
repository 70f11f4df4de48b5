-- Examples of the written rules, as one table with one statement, `ExamplesHold`: each refusal number of documents 01 and 02 on both sides of
-- its limit, each clause of "malformed", words with their texts and with the bytes that they leave, carry-less products of pieces. A rule
-- that is changed here or there no longer fits its row.
-- Assumes nothing.
use Rattle.std.specs.Prelude.{ℕ, ◌*◌, ◌≡◌, Bool, true, false, List, [], ◌∷◌, ◌++◌, length, set, replicate, Some}
use Prim.Native.String.{String}
use Rattle.std.proofs.lemmas.List.Edits.{sets}
use Rattle.gf128.specs.Bytes.{block_bytes}
use Rattle.gf128.specs.Degree.{degree_of, degree_refusal, degree_number, degree_place}
use Rattle.gf128.specs.Entries.{product_refusal, hash_refusal, step_back_refusal, out_number, out_bytes, finish_number, finish_state}
use Rattle.gf128.specs.Running.{State, no_bytes, malformed, feed_a_refusal, feed_c_refusal, finish_refusal}
use Rattle.gf128.specs.StepBack.{StepsBack}
use Rattle.vector_registers.specs.declared.settings.Settings.{Settings}
use Rattle.vector_registers.specs.Settings.{with_policies}
use Rattle.vector_group.specs.Group.{group_refusal, part_start, part_length}
use Rattle.vector_kind.specs.declared.Kind.{Kind}
use Rattle.vector_kind.specs.declared.Kind.TheVariants.{VclmulVv, VclmulVx, VclmulhVv, VclmulhVx, VghshVv, VghshVs, VgmulVv, VgmulVs}
use Rattle.vector_word.specs.Word.{instruction, decode}
use Rattle.vector_numbers.specs.Numbers.{encoded_numbered, decoded_numbered}
use Rattle.vector_listing.specs.Listing.{listed, listed_into}
use Rattle.vector_listing.specs.Text.{ascii, text_of}
use Rattle.vector_reader.specs.Reading.{Reads}
use Rattle.vector_refusal.specs.Refusal.{refusal_of, refusal_of_known}
use Rattle.vector_product.specs.Pieces.{clmul8, sum_of_products, even_products}
use Rattle.vector_execute.specs.Execute.{executed, vstart_after}
use Rattle.theorems_examples.specs.Rows.{AllHold}

-- VLEN, SEW, LMUL, vl and vstart, with both policies off
abbrev pub settings : ℕ → ℕ → ℕ → ℕ → ℕ → Settings
settings vlen sew lmul vl vstart =
    record { vlen = vlen; sew = sew; lmul = lmul; vta = false; vma = false; vl = vl; vstart = vstart }

-- with tail agnostic, and with mask agnostic
abbrev pub ta : Settings → Settings
ta s = with_policies true s.vma s

abbrev pub ma : Settings → Settings
ma s = with_policies s.vta true s

-- a running hash whose open block has this byte at this place, and zeros elsewhere
abbrev pub running : (y phase count_a count_c place byte : ℕ) → State
running y phase count_a count_c place byte = record { y = y; block = set no_bytes place byte; count_a = count_a; count_c = count_c; phase = phase }

-- a register file with VLEN 128: a register's number and its 16 bytes, the first that names a register; the others hold A5
unfoldable pub file : List (ℕ × ℕ) → List ℕ
file [] = replicate 512 0xA5
file (r ∷ rs) = sets (file rs) (16 * r.0) (block_bytes r.1)

pub data Example : Type 0 where
  -- a call on a file of so many bytes, and its number
  call : (file_length w : ℕ) → (s : Settings) → (number : ℕ) → Example
  -- a word of the eight by its fields, and its number, where 1 does not apply
  known : (kind : Kind) → (vm vd vs2 vs1 : ℕ) → (s : Settings) → (number : ℕ) → Example
  -- a word, its kind and its fields
  word : (w : ℕ) → (kind : Kind) → (vm vd vs2 vs1 : ℕ) → Example
  -- a kind's number and fields, and the number and the word that the writer answers
  encodes : (kind vm vs2 vs1 vd number w : ℕ) → Example
  -- a word, and the number, the kind's number and the fields that the decoder answers
  decodes : (w number kind vm vs2 vs1 vd : ℕ) → Example
  -- a word and a buffer's length, and the number and the text's length that the listing answers
  lists : (w buffer number bytes : ℕ) → Example
  -- a word and its text
  lists-as : (w : ℕ) → (text : String) → Example
  -- a word and a buffer, and the buffer after the listing
  lists-into : (w : ℕ) → (before after : List ℕ) → Example
  -- a text, and the number and the word that the reader answers
  reads : (text : List ℕ) → (number w : ℕ) → Example
  -- the question for a register group
  question : (vlen file_length lmul register number : ℕ) → Example
  -- the same question, and the start and the length of the part that is handed back
  part : (vlen file_length lmul register start bytes : ℕ) → Example
  -- the lengths of a key and of a block, and the product's number
  times : (key block number : ℕ) → Example
  -- the lengths of a key, of A and of C, and the number of the whole hash
  hash : (key a c number : ℕ) → Example
  -- the lengths of a key, of a block and of a later hash, and the step back's number where 12 and 13 do not apply
  backward : (key block later number : ℕ) → Example
  -- the length of an `out`, the number that the call would answer, and the one that it answers
  out : (length answer number : ℕ) → Example
  -- an `out`, a block, and the `out` that it is written to
  written : (before : List ℕ) → (v : ℕ) → (after : List ℕ) → Example
  -- a running hash, and whether it is malformed
  state : (phase count_a count_c place byte : ℕ) → (bad : Bool) → Example
  -- a running hash with no open byte but zeros, the lengths of a key and of a piece, and the numbers of a piece of A, of a piece of C and of
  -- the finish
  feeds : (phase count_a count_c key piece a c finish : ℕ) → Example
  -- a running hash in a phase, with counts of 0, the lengths of a key and of an `out`, the number of the finish, and the phase afterwards
  finishes : (phase key out number after : ℕ) → Example
  -- a block, and the number and the place that are its degree's
  degree : (u number place : ℕ) → Example
  -- a block given as bytes, and the number and the place that are its degree's
  degree_of_bytes : (block : List ℕ) → (number place : ℕ) → Example
  -- the step back from H, X and Y1: the number and the block that it answers
  back : (h x y1 number block : ℕ) → Example
  -- two pieces and their carry-less product
  pieces : (p q product : ℕ) → Example
  -- numbers of pieces, two numbers, and the sum of the products of these pieces of theirs
  sums : (m n a b product : ℕ) → Example
  -- a number, a piece, and the products of the number's even pieces with it, in lanes
  four : (a q products : ℕ) → Example
  -- a call on a file, the registers that it changes, and vstart afterwards
  execution : (w : ℕ) → (s : Settings) → (scalar : ℕ) → (before changed : List (ℕ × ℕ)) → (vstart : ℕ) → Example

-- what an example says
abbrev pub Holds : Example → Type 0
Holds (call file_length w s number) = refusal_of file_length w s ≡ number
Holds (known kind vm vd vs2 vs1 s number) = refusal_of_known kind (record { vm = vm; vs2 = vs2; vs1 = vs1; vd = vd }) s ≡ number
Holds (word w kind vm vd vs2 vs1) = decode w ≡ Some (instruction kind (record { vm = vm; vs2 = vs2; vs1 = vs1; vd = vd }))
Holds (encodes kind vm vs2 vs1 vd number w) = encoded_numbered kind (record { vm = vm; vs2 = vs2; vs1 = vs1; vd = vd }) ≡ record { number = number; word = w }
Holds (decodes w number kind vm vs2 vs1 vd) =
    decoded_numbered w ≡ record { number = number; kind = kind; fields = record { vm = vm; vs2 = vs2; vs1 = vs1; vd = vd } }
Holds (lists w buffer number bytes) = listed buffer (decode w) ≡ record { number = number; length = bytes }
Holds (lists-as w text) = text_of (decode w) ≡ ascii text
Holds (lists-into w before after) = listed_into before (decode w) ≡ after
Holds (reads text number w) = Reads text (record { number = number; word = w })
Holds (question vlen file_length lmul register number) = group_refusal vlen file_length lmul register ≡ number
Holds (part vlen file_length lmul register start bytes) = (part_start vlen file_length lmul register ≡ start) × (part_length vlen file_length lmul register ≡ bytes)
Holds (times k b number) = (key block : List ℕ) → length key ≡ k → length block ≡ b → product_refusal key block ≡ number
Holds (hash k m n number) = (key a c : List ℕ) → length key ≡ k → length a ≡ m → length c ≡ n → hash_refusal key a c ≡ number
Holds (backward k b l number) = (key block later : List ℕ) → length key ≡ k → length block ≡ b → length later ≡ l → step_back_refusal key block later ≡ number
Holds (out n answer number) = (bytes : List ℕ) → length bytes ≡ n → out_number bytes answer ≡ number
Holds (written before v after) = out_bytes before v ≡ after
Holds (state phase count_a count_c place byte bad) = (y : ℕ) → malformed (running y phase count_a count_c place byte) ≡ bad
Holds (feeds phase count_a count_c k n a c finish) =
    (y : ℕ) (key piece : List ℕ) → length key ≡ k → length piece ≡ n
    → (feed_a_refusal key (running y phase count_a count_c 0 0) piece ≡ a)
    × (feed_c_refusal key (running y phase count_a count_c 0 0) piece ≡ c)
    × (finish_refusal key (running y phase count_a count_c 0 0) ≡ finish)
Holds (finishes phase k n number after) =
    (finish_number (replicate k 0) (running 0 phase 0 0 0 0) (replicate n 0xA5) ≡ number)
    × ((finish_state (replicate k 0) (running 0 phase 0 0 0 0) (replicate n 0xA5)).phase ≡ after)
Holds (degree u number place) = (degree_refusal u ≡ number) × (degree_of u ≡ place)
Holds (degree_of_bytes block number place) = (degree_number block ≡ number) × (degree_place block ≡ place)
Holds (back h x y1 number block) = StepsBack h x y1 number block
Holds (pieces p q product) = clmul8 p q ≡ product
Holds (sums m n a b product) = sum_of_products m n a b ≡ product
Holds (four a q products) = even_products a q ≡ products
Holds (execution w s scalar before changed vstart) =
    (executed w s scalar (file before) ≡ file (changed ++ before)) × (vstart_after (length (file before)) w s ≡ vstart)

unfoldable pub table : List Example
table =
    -- 1: VLEN not allowed, or file length not 32·VLEN/8
    call 512 0x32862257 (settings 128 8 1 1 0) 0
    ∷ call 511 0x32862257 (settings 128 8 1 1 0) 1
    ∷ call 513 0x32862257 (settings 128 8 1 1 0) 1
    ∷ call 1024 0x32862257 (settings 256 8 1 1 0) 0
    ∷ call 1023 0x32862257 (settings 256 8 1 1 0) 1
    ∷ call 1025 0x32862257 (settings 256 8 1 1 0) 1
    ∷ call 2048 0x32862257 (settings 512 8 1 1 0) 0
    ∷ call 2047 0x32862257 (settings 512 8 1 1 0) 1
    ∷ call 2049 0x32862257 (settings 512 8 1 1 0) 1
    ∷ call 256 0x32862257 (settings 64 8 1 1 0) 1
    ∷ call 508 0x32862257 (settings 127 8 1 1 0) 1
    ∷ call 516 0x32862257 (settings 129 8 1 1 0) 1
    ∷ call 4096 0x32862257 (settings 1024 8 1 1 0) 1
    -- 2: the word is none of the eight. The eight, each with vd 4, vs2 8 and, but for vgmul, vs1 or rs1 12
    ∷ word 0x32862257 VclmulVv 1 4 8 12
    ∷ word 0x32866257 VclmulVx 1 4 8 12
    ∷ word 0x36862257 VclmulhVv 1 4 8 12
    ∷ word 0x36866257 VclmulhVx 1 4 8 12
    ∷ word 0xB2862277 VghshVv 1 4 8 12
    ∷ word 0x8E862277 VghshVs 1 4 8 12
    ∷ word 0xA288A277 VgmulVv 1 4 8 17
    ∷ word 0xA688A277 VgmulVs 1 4 8 17
    ∷ word 0x30862257 VclmulVv 0 4 8 12
    ∷ word 0x34866257 VclmulhVx 0 4 8 12
    -- 2: one bit of those changed, in opcode, funct3, funct6, vm of a GHASH word, and the vs1 field of vgmul
    ∷ call 512 0x32862277 (settings 128 32 1 4 0) 2
    ∷ call 512 0xB2862257 (settings 128 32 1 4 0) 2
    ∷ call 512 0xB2862276 (settings 128 32 1 4 0) 2
    ∷ call 512 0x32863257 (settings 128 32 1 4 0) 2
    ∷ call 512 0x32864257 (settings 128 32 1 4 0) 2
    ∷ call 512 0x3A862257 (settings 128 32 1 4 0) 2
    ∷ call 512 0xB6862277 (settings 128 32 1 4 0) 2
    ∷ call 512 0xB0862277 (settings 128 32 1 4 0) 2
    ∷ call 512 0x8C862277 (settings 128 32 1 4 0) 2
    ∷ call 512 0xA088A277 (settings 128 32 1 4 0) 2
    ∷ call 512 0xA488A277 (settings 128 32 1 4 0) 2
    ∷ call 512 0xA2882277 (settings 128 32 1 4 0) 2
    ∷ call 512 0xA680A277 (settings 128 32 1 4 0) 2
    -- 2 of the writer: a kind over 7, a vm over 1, a register over 31, and a vm or a vs1 field that the row does not allow
    ∷ encodes 0 1 8 12 4 0 0x32862257
    ∷ encodes 1 1 8 12 4 0 0x32866257
    ∷ encodes 2 1 8 12 4 0 0x36862257
    ∷ encodes 3 1 8 12 4 0 0x36866257
    ∷ encodes 4 1 8 12 4 0 0xB2862277
    ∷ encodes 5 1 8 12 4 0 0x8E862277
    ∷ encodes 6 1 8 17 4 0 0xA288A277
    ∷ encodes 7 1 8 17 4 0 0xA688A277
    ∷ encodes 0 0 8 12 4 0 0x30862257
    ∷ encodes 1 0 8 12 4 0 0x30866257
    ∷ encodes 2 0 8 12 4 0 0x34862257
    ∷ encodes 3 0 8 12 4 0 0x34866257
    ∷ encodes 4 0 8 12 4 2 0
    ∷ encodes 5 0 8 12 4 2 0
    ∷ encodes 6 0 8 17 4 2 0
    ∷ encodes 7 0 8 17 4 2 0
    ∷ encodes 8 1 8 12 4 2 0
    ∷ encodes 0 2 8 12 4 2 0
    ∷ encodes 4 2 8 12 4 2 0
    ∷ encodes 0 1 31 31 31 0 0x33FFAFD7
    ∷ encodes 0 1 32 31 31 2 0
    ∷ encodes 0 1 31 32 31 2 0
    ∷ encodes 0 1 31 31 32 2 0
    ∷ encodes 3 1 31 31 31 0 0x37FFEFD7
    ∷ encodes 3 1 32 31 31 2 0
    ∷ encodes 3 1 31 32 31 2 0
    ∷ encodes 3 1 31 31 32 2 0
    ∷ encodes 4 1 31 31 31 0 0xB3FFAFF7
    ∷ encodes 4 1 32 31 31 2 0
    ∷ encodes 4 1 31 32 31 2 0
    ∷ encodes 4 1 31 31 32 2 0
    ∷ encodes 6 1 8 16 4 2 0
    ∷ encodes 6 1 8 18 4 2 0
    ∷ encodes 6 1 31 17 0 0 0xA3F8A077
    ∷ encodes 6 1 32 17 0 2 0
    ∷ encodes 6 1 31 17 32 2 0
    ∷ encodes 7 1 8 16 4 2 0
    ∷ encodes 7 1 8 18 4 2 0
    ∷ encodes 7 1 31 17 0 0 0xA7F8A077
    ∷ encodes 7 1 32 17 0 2 0
    ∷ encodes 7 1 31 17 32 2 0
    -- the decoder by number; zeros where the word is none of the eight
    ∷ decodes 0x32862257 0 0 1 8 12 4
    ∷ decodes 0x32866257 0 1 1 8 12 4
    ∷ decodes 0x36862257 0 2 1 8 12 4
    ∷ decodes 0x36866257 0 3 1 8 12 4
    ∷ decodes 0xB2862277 0 4 1 8 12 4
    ∷ decodes 0x8E862277 0 5 1 8 12 4
    ∷ decodes 0xA288A277 0 6 1 8 17 4
    ∷ decodes 0xA688A277 0 7 1 8 17 4
    ∷ decodes 0x341121D7 0 2 0 1 2 3
    ∷ decodes 0x00000000 2 0 0 0 0 0
    ∷ decodes 0xFFFFFFFF 2 0 0 0 0 0
    ∷ decodes 0xB0862277 2 0 0 0 0 0
    -- 22: a buffer under 32 bytes; 2 comes before it
    ∷ lists 0xB2862277 32 0 20
    ∷ lists 0xB2862277 31 22 0
    ∷ lists 0xB2862277 33 0 20
    ∷ lists 0xB2862277 0 22 0
    ∷ lists 0x3221E0D7 32 0 20
    ∷ lists 0x00000000 32 2 0
    ∷ lists 0x00000000 31 2 0
    ∷ lists 0xB0862277 0 2 0
    -- the longest text has 30 bytes, the shortest 15
    ∷ lists 0x35FFEFD7 32 0 30
    ∷ lists 0xA208A077 32 0 15
    -- K12 and the other word of document 01, and a text of each kind, with and without a mask
    ∷ lists-as 0xB2862277 "vghsh.vv v4, v8, v12"
    ∷ lists-as 0x3221E0D7 "vclmul.vx v1, v2, x3"
    ∷ lists-as 0x32A4A5D7 "vclmul.vv v11, v10, v9"
    ∷ lists-as 0x301FAF57 "vclmul.vv v30, v1, v31, v0.t"
    ∷ lists-as 0x314069D7 "vclmul.vx v19, v20, x0, v0.t"
    ∷ lists-as 0x3621A0D7 "vclmulh.vv v1, v2, v3"
    ∷ lists-as 0x35DF2FD7 "vclmulh.vv v31, v29, v30, v0.t"
    ∷ lists-as 0x37FFEFD7 "vclmulh.vx v31, v31, x31"
    ∷ lists-as 0x35FFEFD7 "vclmulh.vx v31, v31, x31, v0.t"
    ∷ lists-as 0xB2002077 "vghsh.vv v0, v0, v0"
    ∷ lists-as 0x8E862277 "vghsh.vs v4, v8, v12"
    ∷ lists-as 0xA288A277 "vgmul.vv v4, v8"
    ∷ lists-as 0xA698A577 "vgmul.vs v10, v9"
    -- the buffer: the text and every later byte; a refusal writes nothing
    ∷ lists-into 0xB2862277 (replicate 33 0xA5) (ascii "vghsh.vv v4, v8, v12" ++ replicate 13 0xA5)
    ∷ lists-into 0xB2862277 (replicate 31 0xA5) (replicate 31 0xA5)
    ∷ lists-into 0x00000000 (replicate 33 0xA5) (replicate 33 0xA5)
    -- the reader: exactly these texts
    ∷ reads (ascii "vghsh.vv v4, v8, v12") 0 0xB2862277
    ∷ reads (ascii "vclmul.vx v1, v2, x3") 0 0x3221E0D7
    ∷ reads (ascii "vclmul.vv v30, v1, v31, v0.t") 0 0x301FAF57
    ∷ reads (ascii "vclmulh.vv v1, v2, v3") 0 0x3621A0D7
    ∷ reads (ascii "vclmulh.vx v31, v31, x31, v0.t") 0 0x35FFEFD7
    ∷ reads (ascii "vghsh.vs v4, v8, v12") 0 0x8E862277
    ∷ reads (ascii "vgmul.vv v4, v8") 0 0xA288A277
    ∷ reads (ascii "vgmul.vs v10, v9") 0 0xA698A577
    ∷ reads (ascii "vghsh.vv v04, v8, v12") 2 0
    ∷ reads (ascii "vghsh.vv v4, v8, v32") 2 0
    ∷ reads (ascii "vghsh.vv v4, v8, v100") 2 0
    ∷ reads (ascii "vghsh.vv v4, v8, v12 ") 2 0
    ∷ reads (ascii " vghsh.vv v4, v8, v12") 2 0
    ∷ reads (ascii "vghsh.vv  v4, v8, v12") 2 0
    ∷ reads (ascii "vghsh.vv v4,v8, v12") 2 0
    ∷ reads (ascii "vghsh.vv v4, v8, x12") 2 0
    ∷ reads (ascii "vclmul.vx v1, v2, v3") 2 0
    ∷ reads (ascii "vghsh.vv v4, v8, v12, v0.t") 2 0
    ∷ reads (ascii "vghsh.vv v4, v8") 2 0
    ∷ reads (ascii "vgmul.vv v4, v8, v17") 2 0
    ∷ reads (ascii "vghsh.vx v4, v8, x12") 2 0
    ∷ reads (ascii "VGHSH.VV v4, v8, v12") 2 0
    ∷ reads (ascii "vghsh.vv v4, v8, v:") 2 0
    ∷ reads (ascii "vclmul.vv v1, v2, v3, v0") 2 0
    ∷ reads (ascii "vclmul.vv v1, v2, v3, v0.t, v0.t") 2 0
    ∷ reads (ascii "") 2 0
    ∷ reads (ascii "vghsh.vv v4, v8, v12" ++ 0x0A ∷ []) 2 0
    ∷ reads (ascii "vghsh.vv v4, v8, v12" ++ 0x00 ∷ []) 2 0
    -- 3: SEW or LMUL not allowed, or vl over VLMAX
    ∷ known VclmulVv 1 8 16 24 (settings 128 8 1 16 0) 0
    ∷ known VclmulVv 1 8 16 24 (settings 128 8 1 17 0) 3
    ∷ known VclmulVv 1 8 16 24 (settings 128 64 1 2 0) 0
    ∷ known VclmulVv 1 8 16 24 (settings 128 64 1 3 0) 3
    ∷ known VclmulVv 1 8 16 24 (settings 256 16 2 32 0) 0
    ∷ known VclmulVv 1 8 16 24 (settings 256 16 2 33 0) 3
    ∷ known VclmulVv 1 8 16 24 (settings 512 32 4 64 0) 0
    ∷ known VclmulVv 1 8 16 24 (settings 512 32 4 65 0) 3
    ∷ known VclmulVv 1 8 16 24 (settings 512 8 8 512 0) 0
    ∷ known VclmulVv 1 8 16 24 (settings 512 8 8 513 0) 3
    ∷ known VclmulVv 1 8 16 24 (settings 128 0 1 1 0) 3
    ∷ known VclmulVv 1 8 16 24 (settings 128 4 1 1 0) 3
    ∷ known VclmulVv 1 8 16 24 (settings 128 24 1 1 0) 3
    ∷ known VclmulVv 1 8 16 24 (settings 128 128 1 1 0) 3
    ∷ known VclmulVv 1 8 16 24 (settings 128 8 0 1 0) 3
    ∷ known VclmulVv 1 8 16 24 (settings 128 8 3 1 0) 3
    ∷ known VclmulVv 1 8 16 24 (settings 128 8 16 1 0) 3
    -- 4: a GHASH word and SEW is not 32
    ∷ known VghshVv 1 4 8 12 (settings 128 32 1 4 0) 0
    ∷ known VghshVv 1 4 8 12 (settings 128 16 1 4 0) 4
    ∷ known VghshVv 1 4 8 12 (settings 128 64 2 4 0) 4
    ∷ known VghshVs 1 4 8 12 (settings 128 32 1 4 0) 0
    ∷ known VghshVs 1 4 8 12 (settings 128 16 1 4 0) 4
    ∷ known VghshVs 1 4 8 12 (settings 128 64 2 4 0) 4
    ∷ known VgmulVv 1 4 8 17 (settings 128 32 1 4 0) 0
    ∷ known VgmulVv 1 4 8 17 (settings 128 16 1 4 0) 4
    ∷ known VgmulVv 1 4 8 17 (settings 128 64 2 4 0) 4
    ∷ known VgmulVs 1 4 8 17 (settings 128 32 1 4 0) 0
    ∷ known VgmulVs 1 4 8 17 (settings 128 16 1 4 0) 4
    ∷ known VgmulVs 1 4 8 17 (settings 128 64 2 4 0) 4
    ∷ known VclmulVv 1 4 8 12 (settings 128 16 1 4 0) 0
    ∷ known VclmulhVx 1 4 8 12 (settings 128 64 2 4 0) 0
    -- 5: a GHASH word and vl or vstart no multiple of 4
    ∷ known VghshVv 1 4 8 12 (settings 128 32 2 0 0) 0
    ∷ known VghshVv 1 4 8 12 (settings 128 32 2 4 0) 0
    ∷ known VghshVv 1 4 8 12 (settings 128 32 2 5 0) 5
    ∷ known VghshVv 1 4 8 12 (settings 128 32 2 6 0) 5
    ∷ known VghshVv 1 4 8 12 (settings 128 32 2 8 0) 0
    ∷ known VghshVv 1 4 8 12 (settings 128 32 2 8 1) 5
    ∷ known VghshVv 1 4 8 12 (settings 128 32 2 8 2) 5
    ∷ known VghshVv 1 4 8 12 (settings 128 32 2 8 4) 0
    ∷ known VghshVv 1 4 8 12 (settings 128 32 2 8 6) 5
    ∷ known VghshVv 1 4 8 12 (settings 128 32 2 4 8) 0
    ∷ known VghshVs 1 4 8 12 (settings 128 32 2 6 0) 5
    ∷ known VghshVs 1 4 8 12 (settings 128 32 2 8 2) 5
    ∷ known VgmulVv 1 4 8 17 (settings 128 32 2 6 0) 5
    ∷ known VgmulVv 1 4 8 17 (settings 128 32 2 8 2) 5
    ∷ known VgmulVs 1 4 8 17 (settings 128 32 2 6 0) 5
    ∷ known VgmulVs 1 4 8 17 (settings 128 32 2 8 2) 5
    ∷ known VclmulVv 1 4 8 12 (settings 128 32 2 5 2) 0
    -- 6: a register group's number is no multiple of LMUL. vd
    ∷ known VclmulVx 1 31 16 12 (settings 128 32 1 4 0) 0
    ∷ known VclmulVx 1 30 16 12 (settings 128 32 2 4 0) 0
    ∷ known VclmulVx 1 31 16 12 (settings 128 32 2 4 0) 6
    ∷ known VclmulVx 1 4 16 12 (settings 128 32 4 4 0) 0
    ∷ known VclmulVx 1 6 16 12 (settings 128 32 4 4 0) 6
    ∷ known VclmulVx 1 8 16 12 (settings 128 32 8 4 0) 0
    ∷ known VclmulVx 1 12 16 12 (settings 128 32 8 4 0) 6
    ∷ known VclmulVv 1 5 8 12 (settings 128 32 2 4 0) 6
    ∷ known VclmulhVv 1 5 8 12 (settings 128 32 2 4 0) 6
    ∷ known VclmulhVx 1 5 8 12 (settings 128 32 2 4 0) 6
    ∷ known VghshVv 1 5 8 12 (settings 128 32 2 4 0) 6
    ∷ known VghshVs 1 5 8 12 (settings 128 32 2 4 0) 6
    ∷ known VgmulVv 1 5 8 17 (settings 128 32 2 4 0) 6
    ∷ known VgmulVs 1 5 8 17 (settings 128 32 2 4 0) 6
    -- 6: vs2, except in .vs words
    ∷ known VclmulVv 1 4 9 12 (settings 128 32 2 4 0) 6
    ∷ known VclmulVx 1 4 9 12 (settings 128 32 2 4 0) 6
    ∷ known VclmulhVv 1 4 9 12 (settings 128 32 2 4 0) 6
    ∷ known VclmulhVx 1 4 9 12 (settings 128 32 2 4 0) 6
    ∷ known VghshVv 1 4 9 12 (settings 128 32 2 4 0) 6
    ∷ known VgmulVv 1 4 9 17 (settings 128 32 2 4 0) 6
    ∷ known VghshVs 1 4 9 12 (settings 128 32 2 4 0) 0
    ∷ known VgmulVs 1 4 9 17 (settings 128 32 2 4 0) 0
    -- 6: vs1 in .vv carry-less words and both vghsh words; rs1, and the 17 that vgmul has there, are no groups
    ∷ known VclmulVv 1 4 8 13 (settings 128 32 2 4 0) 6
    ∷ known VclmulVx 1 4 8 13 (settings 128 32 2 4 0) 0
    ∷ known VclmulhVv 1 4 8 13 (settings 128 32 2 4 0) 6
    ∷ known VclmulhVx 1 4 8 13 (settings 128 32 2 4 0) 0
    ∷ known VghshVv 1 4 8 13 (settings 128 32 2 4 0) 6
    ∷ known VghshVs 1 4 8 13 (settings 128 32 2 4 0) 6
    ∷ known VgmulVv 1 4 8 17 (settings 128 32 2 4 0) 0
    ∷ known VgmulVs 1 4 8 17 (settings 128 32 2 4 0) 0
    -- 7: a .vs word and vd ≤ vs2 < vd + LMUL. The register before the group, its first, its last, and the register after it
    ∷ known VghshVs 1 8 7 24 (settings 128 32 1 4 0) 0
    ∷ known VghshVs 1 8 8 24 (settings 128 32 1 4 0) 7
    ∷ known VghshVs 1 8 9 24 (settings 128 32 1 4 0) 0
    ∷ known VghshVs 1 8 7 24 (settings 128 32 2 4 0) 0
    ∷ known VghshVs 1 8 8 24 (settings 128 32 2 4 0) 7
    ∷ known VghshVs 1 8 9 24 (settings 128 32 2 4 0) 7
    ∷ known VghshVs 1 8 10 24 (settings 128 32 2 4 0) 0
    ∷ known VghshVs 1 8 7 24 (settings 128 32 4 4 0) 0
    ∷ known VghshVs 1 8 8 24 (settings 128 32 4 4 0) 7
    ∷ known VghshVs 1 8 11 24 (settings 128 32 4 4 0) 7
    ∷ known VghshVs 1 8 12 24 (settings 128 32 4 4 0) 0
    ∷ known VghshVs 1 8 7 24 (settings 128 32 8 4 0) 0
    ∷ known VghshVs 1 8 8 24 (settings 128 32 8 4 0) 7
    ∷ known VghshVs 1 8 15 24 (settings 128 32 8 4 0) 7
    ∷ known VghshVs 1 8 16 24 (settings 128 32 8 4 0) 0
    ∷ known VgmulVs 1 8 7 17 (settings 128 32 1 4 0) 0
    ∷ known VgmulVs 1 8 8 17 (settings 128 32 1 4 0) 7
    ∷ known VgmulVs 1 8 9 17 (settings 128 32 1 4 0) 0
    ∷ known VgmulVs 1 8 7 17 (settings 128 32 2 4 0) 0
    ∷ known VgmulVs 1 8 8 17 (settings 128 32 2 4 0) 7
    ∷ known VgmulVs 1 8 9 17 (settings 128 32 2 4 0) 7
    ∷ known VgmulVs 1 8 10 17 (settings 128 32 2 4 0) 0
    ∷ known VgmulVs 1 8 7 17 (settings 128 32 4 4 0) 0
    ∷ known VgmulVs 1 8 8 17 (settings 128 32 4 4 0) 7
    ∷ known VgmulVs 1 8 11 17 (settings 128 32 4 4 0) 7
    ∷ known VgmulVs 1 8 12 17 (settings 128 32 4 4 0) 0
    ∷ known VgmulVs 1 8 7 17 (settings 128 32 8 4 0) 0
    ∷ known VgmulVs 1 8 8 17 (settings 128 32 8 4 0) 7
    ∷ known VgmulVs 1 8 15 17 (settings 128 32 8 4 0) 7
    ∷ known VgmulVs 1 8 16 17 (settings 128 32 8 4 0) 0
    -- 7: a register inside the group, register 31, a group at register 0, a larger VLEN, and vl 0
    ∷ known VghshVs 1 8 10 24 (settings 128 32 4 4 0) 7
    ∷ known VgmulVs 1 24 31 17 (settings 128 32 8 4 0) 7
    ∷ known VgmulVs 1 24 23 17 (settings 128 32 8 4 0) 0
    ∷ known VghshVs 1 0 1 24 (settings 128 32 2 4 0) 7
    ∷ known VghshVs 1 0 31 24 (settings 128 32 2 4 0) 0
    ∷ known VghshVs 1 8 9 24 (settings 512 32 2 4 0) 7
    ∷ known VghshVs 1 8 10 24 (settings 512 32 2 4 0) 0
    ∷ known VgmulVs 1 8 9 17 (settings 128 32 2 0 0) 7
    -- 7: the same by the word, vgmul.vs v4, v5 and vgmul.vs v4, v6
    ∷ call 512 0xA658A277 (settings 128 32 2 8 0) 7
    ∷ call 512 0xA668A277 (settings 128 32 2 8 0) 0
    -- 7: not for vs1, nor in other words
    ∷ known VghshVs 1 8 4 8 (settings 128 32 4 4 0) 0
    ∷ known VghshVv 1 8 8 24 (settings 128 32 1 4 0) 0
    ∷ known VghshVv 1 8 8 24 (settings 128 32 4 4 0) 0
    ∷ known VgmulVv 1 8 8 17 (settings 128 32 1 4 0) 0
    ∷ known VgmulVv 1 8 8 17 (settings 128 32 4 4 0) 0
    ∷ known VclmulVv 1 8 8 8 (settings 128 32 4 4 0) 0
    ∷ known VclmulhVx 1 8 8 8 (settings 128 32 4 4 0) 0
    -- 8: vm is 0 and vd, vs2 or (.vv) vs1 is register 0
    ∷ known VclmulVv 0 0 8 12 (settings 128 32 1 4 0) 8
    ∷ known VclmulVv 0 4 0 12 (settings 128 32 1 4 0) 8
    ∷ known VclmulVv 0 4 8 0 (settings 128 32 1 4 0) 8
    ∷ known VclmulVv 0 1 1 1 (settings 128 32 1 4 0) 0
    ∷ known VclmulVv 1 0 0 0 (settings 128 32 1 4 0) 0
    ∷ known VclmulVx 0 0 8 12 (settings 128 32 1 4 0) 8
    ∷ known VclmulVx 0 4 0 12 (settings 128 32 1 4 0) 8
    ∷ known VclmulVx 0 4 8 0 (settings 128 32 1 4 0) 0
    ∷ known VclmulVx 0 1 1 1 (settings 128 32 1 4 0) 0
    ∷ known VclmulVx 1 0 0 0 (settings 128 32 1 4 0) 0
    ∷ known VclmulhVv 0 0 8 12 (settings 128 32 1 4 0) 8
    ∷ known VclmulhVv 0 4 0 12 (settings 128 32 1 4 0) 8
    ∷ known VclmulhVv 0 4 8 0 (settings 128 32 1 4 0) 8
    ∷ known VclmulhVv 0 1 1 1 (settings 128 32 1 4 0) 0
    ∷ known VclmulhVv 1 0 0 0 (settings 128 32 1 4 0) 0
    ∷ known VclmulhVx 0 0 8 12 (settings 128 32 1 4 0) 8
    ∷ known VclmulhVx 0 4 0 12 (settings 128 32 1 4 0) 8
    ∷ known VclmulhVx 0 4 8 0 (settings 128 32 1 4 0) 0
    ∷ known VclmulhVx 0 1 1 1 (settings 128 32 1 4 0) 0
    ∷ known VclmulhVx 1 0 0 0 (settings 128 32 1 4 0) 0
    -- where several apply the smallest is given: each number with the next that can stand beside it
    ∷ call 511 0x00000000 (settings 128 24 1 4 0) 1
    ∷ call 512 0x00000000 (settings 128 24 1 4 0) 2
    ∷ call 512 0xB2862277 (settings 128 24 1 5 0) 3
    ∷ call 512 0xB2862277 (settings 128 16 1 5 0) 4
    ∷ known VghshVv 1 5 8 12 (settings 128 32 2 5 0) 5
    ∷ known VgmulVs 1 5 5 17 (settings 128 32 2 4 0) 6
    ∷ known VghshVs 1 8 9 25 (settings 128 32 2 4 0) 6
    ∷ known VclmulVv 0 0 9 12 (settings 128 32 2 4 0) 6
    -- the group question: 1 as above, 3 if LMUL isn't allowed, 6 if the register is over 31 or no multiple of LMUL, else 0
    ∷ question 128 512 1 31 0
    ∷ question 128 512 1 32 6
    ∷ question 128 512 2 30 0
    ∷ question 128 512 2 31 6
    ∷ question 128 512 2 32 6
    ∷ question 256 1024 4 28 0
    ∷ question 256 1024 4 30 6
    ∷ question 512 2048 8 24 0
    ∷ question 512 2048 8 28 6
    ∷ question 128 512 0 0 3
    ∷ question 128 512 3 0 3
    ∷ question 128 512 16 0 3
    ∷ question 128 511 1 0 1
    ∷ question 128 513 1 0 1
    ∷ question 64 256 1 0 1
    ∷ question 128 511 3 32 1
    ∷ question 128 512 3 32 3
    -- the part that a question hands back: it lies where its register does; none on a refusal
    ∷ part 128 512 1 0 0 16
    ∷ part 128 512 1 31 496 16
    ∷ part 128 512 8 8 128 128
    ∷ part 256 1024 2 30 960 64
    ∷ part 512 2048 4 28 1792 256
    ∷ part 128 511 1 1 0 0
    ∷ part 128 512 8 4 0 0
    ∷ part 128 512 1 32 0 0
    -- 9: a key or block not 16 bytes long
    ∷ times 16 16 0
    ∷ times 15 16 9
    ∷ times 17 16 9
    ∷ times 16 15 9
    ∷ times 16 17 9
    ∷ hash 16 0 0 0
    ∷ hash 15 0 0 9
    ∷ hash 17 0 0 9
    ∷ backward 16 16 16 0
    ∷ backward 15 16 16 9
    ∷ backward 17 16 16 9
    ∷ backward 16 15 16 9
    ∷ backward 16 17 16 9
    ∷ backward 16 16 15 9
    ∷ backward 16 16 17 9
    -- 9: an `out` not 16 bytes long, whatever the call would answer
    ∷ out 16 0 0
    ∷ out 16 11 11
    ∷ out 15 0 9
    ∷ out 17 0 9
    ∷ out 17 11 9
    ∷ written (replicate 15 0xA5) 1 (replicate 15 0xA5)
    ∷ written (replicate 16 0xA5) 1 (replicate 15 0x00 ++ 0x01 ∷ [])
    ∷ written (replicate 16 0xA5) 0x80000000000000000000000000000000 (0x80 ∷ replicate 15 0x00)
    ∷ written (replicate 17 0xA5) 1 (replicate 17 0xA5)
    -- the finish: 9 of the key and of the `out`, 10; a running hash that is refused stays in its phase
    ∷ finishes 0 16 16 0 2
    ∷ finishes 1 16 16 0 2
    ∷ finishes 2 16 16 10 2
    ∷ finishes 0 15 16 9 0
    ∷ finishes 0 16 15 9 0
    ∷ finishes 1 16 17 9 1
    ∷ finishes 2 16 15 9 2
    -- 9: the degree of bytes that are no block
    ∷ degree_of_bytes (replicate 15 0x01) 9 0
    ∷ degree_of_bytes (replicate 16 0x01) 0 127
    ∷ degree_of_bytes (replicate 17 0x01) 9 0
    ∷ degree_of_bytes (replicate 16 0x00) 12 0
    -- 11: A or C would pass 1,048,576 bytes; 9 comes before it
    ∷ hash 16 1048576 0 0
    ∷ hash 16 1048577 0 11
    ∷ hash 16 0 1048576 0
    ∷ hash 16 0 1048577 11
    ∷ hash 16 1048576 1048576 0
    ∷ hash 15 1048577 0 9
    -- malformed: a phase over 2
    ∷ state 0 0 0 0 0x00 false
    ∷ state 1 0 0 0 0x00 false
    ∷ state 2 0 0 0 0x00 false
    ∷ state 3 0 0 0 0x00 true
    -- malformed: a count over the limit
    ∷ state 0 1048576 0 0 0x00 false
    ∷ state 0 1048577 0 0 0x00 true
    ∷ state 1 1048576 0 0 0x00 false
    ∷ state 1 1048577 0 0 0x00 true
    ∷ state 2 1048576 0 0 0x00 false
    ∷ state 2 1048577 0 0 0x00 true
    ∷ state 1 0 1048576 0 0x00 false
    ∷ state 1 0 1048577 0 0x00 true
    ∷ state 2 0 1048576 0 0x00 false
    ∷ state 2 0 1048577 0 0x00 true
    -- malformed: in phase 0 a C count that isn't 0
    ∷ state 0 0 1 15 0x00 true
    ∷ state 1 0 1 15 0x00 false
    ∷ state 2 0 1 15 0x00 false
    -- malformed: an open byte that isn't zero at or after the count of the current part modulo 16. In phase 0 the part is A
    ∷ state 0 21 0 4 0x80 false
    ∷ state 0 21 0 5 0x80 true
    ∷ state 0 21 0 15 0x01 true
    ∷ state 0 31 0 14 0x01 false
    ∷ state 0 31 0 15 0x01 true
    ∷ state 0 32 0 0 0x01 true
    -- in phase 1 it is C
    ∷ state 1 31 21 4 0x80 false
    ∷ state 1 31 21 5 0x80 true
    ∷ state 1 31 21 15 0x01 true
    ∷ state 1 0 31 14 0x01 false
    ∷ state 1 31 32 0 0x01 true
    -- in phase 2, at any place
    ∷ state 2 31 31 0 0x00 false
    ∷ state 2 31 31 0 0x01 true
    ∷ state 2 31 31 14 0x01 true
    ∷ state 2 31 31 15 0x80 true
    -- 9 and 10 of the running hash: the key's length, then the phase and malformed
    ∷ feeds 0 5 0 16 1 0 0 0
    ∷ feeds 0 5 0 15 1 9 9 9
    ∷ feeds 0 5 0 17 1 9 9 9
    ∷ feeds 1 5 0 16 0 10 0 0
    ∷ feeds 1 5 7 16 1 10 0 0
    ∷ feeds 2 5 7 16 0 10 10 10
    ∷ feeds 3 5 7 16 1 10 10 10
    ∷ feeds 0 5 7 16 1 10 10 10
    ∷ feeds 2 5 7 15 0 9 9 9
    -- 11 of the running hash; 9 and 10 come before it
    ∷ feeds 0 1048575 0 16 1 0 0 0
    ∷ feeds 0 1048575 0 16 2 11 0 0
    ∷ feeds 0 1048576 0 16 0 0 0 0
    ∷ feeds 0 1048576 0 16 1 11 0 0
    ∷ feeds 1 3 1048575 16 1 10 0 0
    ∷ feeds 1 3 1048575 16 2 10 11 0
    ∷ feeds 1 3 1048576 16 0 10 0 0
    ∷ feeds 1 3 1048576 16 1 10 11 0
    ∷ feeds 1 3 1048576 15 1 9 9 9
    ∷ feeds 2 3 1048576 16 1 10 10 10
    -- 12, degree: zero block
    ∷ degree 0 12 0
    ∷ degree 1 0 127
    ∷ degree 2 0 126
    ∷ degree 0x80000000000000000000000000000000 0 0
    ∷ degree 0xC0000000000000000000000000000000 0 1
    -- 12 and 13, step back: no earlier hash, or more than one; under a key that is not zero there is one
    ∷ back 0 5 0 13 0
    ∷ back 0 5 1 12 0
    ∷ back 1 5 0 0 5
    ∷ back 0x40000000000000000000000000000001 5 0x5B28000000000000000000000000000E 0 0x80000000000000000000000000000000
    -- vclmul.vv v4, v8, v12, v0.t on bytes 1 to 5; mask bits 0, 1, 3 and 5 are 1
    ∷ execution 0x30862257 (settings 128 8 1 6 1) 0
    ((0, 0x2BFF0000000000000000000000000000) ∷ (4, 0x11111111111111111111111111111111) ∷ (8, 0x03FF8080FFFF03000000000000000000) ∷
    (12, 0x0303FF8002FF03000000000000000000) ∷ [])
    ((4, 0x11011100115511111111111111111111) ∷ []) 0
    -- vclmulh.vv v4, v8, v12 on element 1 of 64 bits
    ∷ execution 0x36862257 (settings 128 64 1 2 1) 0
    ((4, 0x11111111111111111111111111111111) ∷ (8, 0x00000000000000010000000000000080) ∷ (12, 0xFFFFFFFFFFFFFFFF0102000000000080) ∷ [])
    ((4, 0x11111111111111110001000000000040) ∷ []) 0
    -- vclmul.vx v4, v8, x31: the scalar modulo 2^8
    ∷ execution 0x328FE257 (settings 128 8 1 2 0) 0xFFFFFFFFFFFFFF03
    ((4, 0x11111111111111111111111111111111) ∷ (8, 0x030580FF000000000000000000000000) ∷ [])
    ((4, 0x050F1111111111111111111111111111) ∷ []) 0
    -- vclmul.vx v4, v8, x0: the scalar counts as zero
    ∷ execution 0x32806257 (settings 128 8 1 2 0) 0xFFFFFFFFFFFFFF03
    ((4, 0x11111111111111111111111111111111) ∷ (8, 0x030580FF000000000000000000000000) ∷ [])
    ((4, 0x00001111111111111111111111111111) ∷ []) 0
    -- vclmulh.vx v4, v8, x1 on element 1 of 32 bits
    ∷ execution 0x3680E257 (settings 128 32 1 2 1) 0xFFFFFFFF80000002
    ((4, 0x11111111111111111111111111111111) ∷ (8, 0x00000080010000800000000000000000) ∷ [])
    ((4, 0x11111111010000401111111111111111) ∷ []) 0
    -- vghsh.vv v4, v8, v12
    ∷ execution 0xB2862277 (settings 128 32 1 4 0) 0
    ((4, 0x80000000000000000000000000000001) ∷ (8, 0x40000000000000000000000000000000) ∷ (12, 0x00000000000000000000000000000002) ∷ [])
    ((4, 0xA1000000000000000000000000000001) ∷ []) 0
    -- vghsh.vs v4, v8, v12 on group 1; H is group 0 of v8
    ∷ execution 0x8E862277 (settings 128 32 2 8 4) 0
    ((4, 0x80000000000000000000000000000001) ∷ (5, 0x80000000000000000000000000000000) ∷ (8, 0x40000000000000000000000000000000) ∷
    (12, 0x00000000000000000000000000000002) ∷ (13, 0x00000000000000000000000000000003) ∷ [])
    ((5, 0xA1000000000000000000000000000001) ∷ []) 0
    -- vgmul.vv v4, v8 on two groups, each with its own H
    ∷ execution 0xA288A277 (settings 128 32 2 8 0) 0
    ((4, 0x80000000000000000000000000000001) ∷ (5, 0x00000000000000000000000000000003) ∷ (8, 0x40000000000000000000000000000000) ∷
    (9, 0x20000000000000000000000000000000) ∷ [])
    ((4, 0xA1000000000000000000000000000000) ∷ (5, 0x91800000000000000000000000000000) ∷ []) 0
    -- vgmul.vs v4, v8 on two groups
    ∷ execution 0xA688A277 (settings 128 32 2 8 0) 0
    ((4, 0x80000000000000000000000000000001) ∷ (5, 0x00000000000000000000000000000003) ∷ (8, 0x40000000000000000000000000000000) ∷
    (9, 0x20000000000000000000000000000000) ∷ [])
    ((4, 0xA1000000000000000000000000000000) ∷ (5, 0xE1000000000000000000000000000001) ∷ []) 0
    -- vgmul.vs v4, v6 on two groups: the key stands after vd's group
    ∷ execution 0xA668A277 (settings 128 32 2 8 0) 0
    ((4, 0x80000000000000000000000000000001) ∷ (5, 0x00000000000000000000000000000003) ∷ (6, 0x40000000000000000000000000000000) ∷ [])
    ((4, 0xA1000000000000000000000000000000) ∷ (5, 0xE1000000000000000000000000000001) ∷ []) 0
    -- vgmul.vs v4, v5: refused with 7, and vstart stays
    ∷ execution 0xA658A277 (settings 128 32 2 8 4) 0
    ((4, 0x80000000000000000000000000000001) ∷ (5, 0x40000000000000000000000000000000) ∷ [])
    [] 4
    -- vstart at vl: nothing is written, and vstart becomes 0
    ∷ execution 0xA288A277 (settings 128 32 2 4 4) 0
    ((4, 0x80000000000000000000000000000001) ∷ (8, 0x40000000000000000000000000000000) ∷ [])
    [] 0
    -- refused with 5: the file and vstart stay
    ∷ execution 0xA288A277 (settings 128 32 2 4 2) 0
    ((4, 0x80000000000000000000000000000001) ∷ (8, 0x40000000000000000000000000000000) ∷ [])
    [] 2
    -- Ask 5, the tail of vclmul.vx v4, v8, x31: ones bits from element vl on; none where vl is VLMAX
    ∷ execution 0x328FE257 (ta (settings 128 8 1 2 0)) 3
    ((4, 0x11111111111111111111111111111111) ∷ (8, 0x030580FF000000000000000000000000) ∷ [])
    ((4, 0x050FFFFFFFFFFFFFFFFFFFFFFFFFFFFF) ∷ []) 0
    ∷ execution 0x328FE257 (ta (settings 128 8 1 15 0)) 3
    ((4, 0x11111111111111111111111111111111) ∷ (8, 0x030580FF000000000000000000000000) ∷ [])
    ((4, 0x050F80010000000000000000000000FF) ∷ []) 0
    ∷ execution 0x328FE257 (ta (settings 128 8 1 16 0)) 3
    ((4, 0x11111111111111111111111111111111) ∷ (8, 0x030580FF000000000000000000000000) ∷ [])
    ((4, 0x050F8001000000000000000000000000) ∷ []) 0
    -- elements before vstart stay
    ∷ execution 0x328FE257 (ta (settings 128 8 1 2 1)) 3
    ((4, 0x11111111111111111111111111111111) ∷ (8, 0x030580FF000000000000000000000000) ∷ [])
    ((4, 0x110FFFFFFFFFFFFFFFFFFFFFFFFFFFFF) ∷ []) 0
    -- to the end of the group and no further
    ∷ execution 0x328FE257 (ta (settings 128 8 2 2 0)) 3
    ((4, 0x11111111111111111111111111111111) ∷ (8, 0x030580FF000000000000000000000000) ∷ [])
    ((4, 0x050FFFFFFFFFFFFFFFFFFFFFFFFFFFFF) ∷ (5, 0xFFFFFFFFFFFFFFFFFFFFFFFFFFFFFFFF) ∷ []) 0
    ∷ execution 0x328FE257 (ta (settings 128 8 4 49 48)) 3
    ((4, 0x11111111111111111111111111111111) ∷ (8, 0x030580FF000000000000000000000000) ∷ [])
    ((7, 0xEFFFFFFFFFFFFFFFFFFFFFFFFFFFFFFF) ∷ []) 0
    -- with vstart at or past vl, vl 0 too, nothing is written
    ∷ execution 0x328FE257 (ta (ma (settings 128 8 1 0 0))) 3
    ((4, 0x11111111111111111111111111111111) ∷ (8, 0x030580FF000000000000000000000000) ∷ [])
    [] 0
    ∷ execution 0x328FE257 (ta (ma (settings 128 8 1 2 2))) 3
    ((4, 0x11111111111111111111111111111111) ∷ (8, 0x030580FF000000000000000000000000) ∷ [])
    [] 0
    ∷ execution 0x328FE257 (ta (ma (settings 128 8 1 2 3))) 3
    ((4, 0x11111111111111111111111111111111) ∷ (8, 0x030580FF000000000000000000000000) ∷ [])
    [] 0
    -- a refusal writes nothing: vl over VLMAX
    ∷ execution 0x328FE257 (ta (ma (settings 128 8 1 17 1))) 3
    ((4, 0x11111111111111111111111111111111) ∷ (8, 0x030580FF000000000000000000000000) ∷ [])
    [] 1
    -- the mask of vclmul.vv v4, v8, v12, v0.t: of elements 1 to 5 the masked-off ones, 2 and 4; element 0 stays, masked off or not
    ∷ execution 0x30862257 (ma (settings 128 8 1 6 1)) 0
    ((0, 0x2BFF0000000000000000000000000000) ∷ (4, 0x11111111111111111111111111111111) ∷ (8, 0x03FF8080FFFF03000000000000000000) ∷
    (12, 0x0303FF8002FF03000000000000000000) ∷ [])
    ((4, 0x1101FF00FF5511111111111111111111) ∷ []) 0
    ∷ execution 0x30862257 (ma (settings 128 8 1 6 1)) 0
    ((0, 0x2AFF0000000000000000000000000000) ∷ (4, 0x11111111111111111111111111111111) ∷ (8, 0x03FF8080FFFF03000000000000000000) ∷
    (12, 0x0303FF8002FF03000000000000000000) ∷ [])
    ((4, 0x1101FF00FF5511111111111111111111) ∷ []) 0
    -- by the tail policy alone these stay, and by both they do not
    ∷ execution 0x30862257 (ta (settings 128 8 1 6 1)) 0
    ((0, 0x2BFF0000000000000000000000000000) ∷ (4, 0x11111111111111111111111111111111) ∷ (8, 0x03FF8080FFFF03000000000000000000) ∷
    (12, 0x0303FF8002FF03000000000000000000) ∷ [])
    ((4, 0x110111001155FFFFFFFFFFFFFFFFFFFF) ∷ []) 0
    ∷ execution 0x30862257 (ta (ma (settings 128 8 1 6 1))) 0
    ((0, 0x2BFF0000000000000000000000000000) ∷ (4, 0x11111111111111111111111111111111) ∷ (8, 0x03FF8080FFFF03000000000000000000) ∷
    (12, 0x0303FF8002FF03000000000000000000) ∷ [])
    ((4, 0x1101FF00FF55FFFFFFFFFFFFFFFFFFFF) ∷ []) 0
    -- with vm 1 the mask policy does nothing
    ∷ execution 0x32862257 (ma (settings 128 8 1 6 1)) 0
    ((0, 0x00FF0000000000000000000000000000) ∷ (4, 0x11111111111111111111111111111111) ∷ (8, 0x03FF8080FFFF03000000000000000000) ∷
    (12, 0x0303FF8002FF03000000000000000000) ∷ [])
    ((4, 0x11018000FE5511111111111111111111) ∷ []) 0
    -- elements of 32 bits: vclmulh.vx v4, v8, x1
    ∷ execution 0x3680E257 (ta (settings 128 32 1 2 1)) 0xFFFFFFFF80000002
    ((4, 0x11111111111111111111111111111111) ∷ (8, 0x00000080010000800000000000000000) ∷ [])
    ((4, 0x1111111101000040FFFFFFFFFFFFFFFF) ∷ []) 0
    -- GHASH words, from group vl/4 on: vghsh.vv v4, v8, v12 and vgmul.vs v4, v8; no tail, and vstart at vl
    ∷ execution 0xB2862277 (ta (ma (settings 128 32 2 4 0))) 0
    ((4, 0x80000000000000000000000000000001) ∷ (8, 0x40000000000000000000000000000000) ∷ (12, 0x00000000000000000000000000000002) ∷ [])
    ((4, 0xA1000000000000000000000000000001) ∷ (5, 0xFFFFFFFFFFFFFFFFFFFFFFFFFFFFFFFF) ∷ []) 0
    ∷ execution 0xA688A277 (ta (settings 128 32 4 8 4)) 0
    ((4, 0x80000000000000000000000000000001) ∷ (5, 0x00000000000000000000000000000003) ∷ (8, 0x40000000000000000000000000000000) ∷ [])
    ((5, 0xE1000000000000000000000000000001) ∷ (6, 0xFFFFFFFFFFFFFFFFFFFFFFFFFFFFFFFF) ∷ (7, 0xFFFFFFFFFFFFFFFFFFFFFFFFFFFFFFFF) ∷ []) 0
    ∷ execution 0xA688A277 (ta (ma (settings 128 32 2 8 4))) 0
    ((4, 0x80000000000000000000000000000001) ∷ (5, 0x00000000000000000000000000000003) ∷ (8, 0x40000000000000000000000000000000) ∷ [])
    ((5, 0xE1000000000000000000000000000001) ∷ []) 0
    ∷ execution 0xA688A277 (ta (ma (settings 128 32 2 4 4))) 0
    ((4, 0x80000000000000000000000000000001) ∷ (8, 0x40000000000000000000000000000000) ∷ [])
    [] 0
    -- pieces: each bit of either counts, and nothing is reduced (the first: FIPS 197, 4.2, before its reduction)
    ∷ pieces 0x57 0x83 0x2B79
    ∷ pieces 0xFF 0xFF 0x5555
    ∷ pieces 0x80 0x80 0x4000
    ∷ pieces 0x01 0x80 0x0080
    ∷ pieces 0x80 0x01 0x0080
    ∷ pieces 0x00 0xFF 0x0000
    -- bit 8 of the second is no bit of a piece
    ∷ pieces 0x01 0x100 0
    -- a number past its pieces, and one more piece
    ∷ sums 1 1 0x100 0x1 0x0
    ∷ sums 2 1 0x100 0x1 0x100
    ∷ sums 1 1 0x1 0x100 0x0
    ∷ sums 1 2 0x1 0x100 0x100
    -- eight pieces each: the top bits, all bits, and the two pairs of Intel's paper on its carry-less multiply instruction
    ∷ sums 8 8 0x8000000000000000 0x8000000000000000 0x40000000000000000000000000000000
    ∷ sums 8 8 0xFFFFFFFFFFFFFFFF 0xFFFFFFFFFFFFFFFF 0x55555555555555555555555555555555
    ∷ sums 8 8 0x63746F725D53475D 0x5B477565726F6E5D 0x1D4D84C85C3440C0929633D5D36F0451
    ∷ sums 8 8 0x7B5B546573745665 0x4869285368617929 0x1D1E1F2C592E7C45D66EE03E410FD4ED
    -- four at once: the even pieces alone, each in its lane
    ∷ four 0xFFFFFFFFFFFFFFFF 0xFF 0x5555555555555555
    ∷ four 0xFF00FF00FF00FF00 0xFF 0x0000000000000000
    ∷ four 0x0080004000200010 0x80 0x4000200010000800
    ∷ four 0x0080000000000000 0xFF 0x7F80000000000000
    ∷ []

-- the statement: the rows are so many, and all of them hold
pub record ExamplesHold : Type 0 where
  pub rows : length table ≡ 474
  pub all : AllHold Holds table
