-- Which job an order asks for, and how many bytes are lent to it.
use Rattle.std.specs.Prelude.{ℕ, Option, None, Some}
use Rattle.meaning.specs.Calls.{Program, check_call, largest_call, one_call, list_call}
use Rattle.words.specs.declared.order.Job as Ordered
use Rattle.words.specs.declared.order.Job.TheVariants as ordered
use Rattle.told.specs.declared.answers.Job.{Job}
use Rattle.told.specs.declared.answers.Job.TheVariants.{Check, Largest, One, List as Listing}

-- the job that a word names (problem, help and version have none, and never come here)
abbrev pub job_told : Option Ordered.Job → Job
job_told None = Check
job_told (Some ordered.Check) = Check
job_told (Some ordered.Largest) = Largest
job_told (Some ordered.One) = One
job_told (Some ordered.List) = Listing
job_told (Some ordered.Problem) = Check
job_told (Some ordered.Help) = Check
job_told (Some ordered.Version) = Check

-- the call that a job is
abbrev pub job_call : Job → Program
job_call Check = check_call
job_call Largest = largest_call
job_call One = one_call
job_call Listing = list_call

-- A check is lent no bytes, a marking job one for each lemma that a file may have, a listing the space.
abbrev pub lent_bytes : Job → ℕ → ℕ
lent_bytes Check space = 0
lent_bytes Largest space = 128
lent_bytes One space = 128
lent_bytes Listing space = space
