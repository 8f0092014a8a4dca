-- 15 in plain words.
use Rattle.std.specs.Prelude.{ℕ, List, ◌++◌}
use Rattle.text.specs.Ascii.{ascii}
use Rattle.text.specs.Filled.{filled}
use Rattle.usage.specs.Texts.{shown}
use Rattle.text_faults.specs.declared.liveness.Liveness.{Liveness}

-- the circuit by its name, and how many justice and fairness properties it has
unfoldable pub liveness_line : List ℕ → Liveness → List ℕ
liveness_line name live =
    (ascii "refusal 15: the circuit " ++ shown name)
    ++ filled (ascii ": justice properties: #, fairness constraints: #, but liveness is not read: take s_eventually and all other liveness properties out of the design\n") live.justice live.fairness 0
