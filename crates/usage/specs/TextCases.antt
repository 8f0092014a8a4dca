-- What is said of a command line's words, worked out.
use Rattle.std.specs.Prelude.{ℕ, ◌≡◌, refl, false, [], ◌∷◌, Some}
use Rattle.text.specs.Ascii.{ascii}
use Rattle.words.specs.declared.order.Job.TheVariants.{One}
use Rattle.words.specs.declared.order.Fault.{Fault}
use Rattle.words.specs.declared.order.Fault.TheVariants.{Unknown, Superfluous, NotANumber, TooLarge, NoFile, NoLemmas}
use Rattle.words.specs.declared.order.Order.{Order}
use Rattle.usage.specs.Texts.{shown_byte, shown, around, allowed, number_text, fault_text, circuit_alone}

abbrev with : ℕ → Fault → Order
with named fault = record { job = Some One; named = named; marks = false; budget = 1000000; space = 65536; awaiting = false; lemmas = false; input = false; fault = Some fault }

texts : (fault_text (with 1 NotANumber) (ascii "12x")
    ∷ fault_text (with 2 TooLarge) (ascii "1048577")
    ∷ fault_text (with 0 Unknown) (ascii "frob")
    ∷ fault_text (with 2 Superfluous) (7 ∷ 97 ∷ 200 ∷ [])
    ∷ fault_text (with 0 NoFile) []
    ∷ fault_text (with 1 NoLemmas) []
    ∷ circuit_alone (ascii "a.aag")
    ∷ [])
    ≡ (ascii "trim: 12x is not a number: the budget is 0 to 4294967295\n"
    ∷ ascii "trim: 1048577 is too large: the space is 0 to 1048576 bytes\n"
    ∷ ascii "trim: unknown word frob: say trim --help\n"
    ∷ ascii "trim: superfluous word ?a?: say trim --help\n"
    ∷ ascii "trim: no file is named: say trim --help\n"
    ∷ ascii "trim: problem is of circuits, and no lemmas are named: add --lemmas FILE\n"
    ∷ ascii "trim: a.aag is a circuit, and its lemmas are missing: add --lemmas FILE\n"
    ∷ [])
unfolding fault_text circuit_alone number_text allowed around shown shown_byte
texts = refl
