-- What C functions' arguments and answers stand for.
-- Assumes nothing.
use Rattle.std.specs.Prelude.{ℕ, Bool, List, length}
use Rattle.trace_record.specs.declared.Record.{Record}
use Rattle.trace_policy.specs.Policy.{policy_of}
use Rattle.vector_listing.specs.Listing.{Listed, listed}
use Rattle.vector_registers.specs.declared.settings.Settings.{Settings}
use Rattle.vector_word.specs.Writer.{Encoded}
use Rattle.vector_word.specs.declared.Fields.{Fields}
use Rattle.vector_word.specs.Word.{decode}

-- the settings of a call of the executor, in the order of the C function's parameters
abbrev pub settings_of : (vlen sew lmul : ℕ) → (vta vma : Bool) → (vl vstart : ℕ) → Settings
settings_of vlen sew lmul vta vma vl vstart =
    record { vlen = vlen; sew = sew; lmul = lmul; vta = vta; vma = vma; vl = vl; vstart = vstart }

-- a record of a trace, in the order of the C function's parameters
abbrev pub record_with : (word sew lmul : ℕ) → (vta vma : Bool) → (answer vl vstart scalar : ℕ) → Record
record_with word sew lmul vta vma answer vl vstart scalar =
    record { word = word; sew = sew; lmul = lmul; answer = answer; policy = policy_of vta vma; vl = vl; vstart = vstart; scalar = scalar }

-- the fields of a word, in the order of the C function's parameters
abbrev pub fields_with : (vm vs2 vs1 vd : ℕ) → Fields
fields_with vm vs2 vs1 vd = record { vm = vm; vs2 = vs2; vs1 = vs1; vd = vd }

-- the listing's answer, by the buffer
abbrev pub listing : List ℕ → ℕ → Listed
listing buffer word = listed (length buffer) (decode word)

-- a number and a word
abbrev pub answer : ℕ → ℕ → Encoded
answer number word = record { number = number; word = word }
