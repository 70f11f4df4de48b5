-- A word's steps on the register file, one after the other: step i reads its sources from the file as it then stands and writes its
-- element or group.
-- Assumes nothing.
use Rattle.std.specs.Prelude.{ℕ, zero, suc, ◌+◌, List}

-- foreach i, n times from i on
unfoldable pub steps : (ℕ → List ℕ → List ℕ) → ℕ → ℕ → List ℕ → List ℕ
steps f zero i file = file
steps f (suc n) i file = steps f n (i + 1) (f i file)
