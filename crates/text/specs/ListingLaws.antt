-- Which text the listing program prints, by the report's number.
use Rattle.std.specs.Prelude.{ℕ, ◌≡◌, List, []}
use Rattle.std.proofs.Common.{ap, ◌∙◌}
use borrow.Author.Tests.{eq-eqb, ne_eqb}
use Rattle.meaning.specs.Calls.{Report, Outcome, Program, check_call}
use Rattle.text.specs.Ascii.{ascii}
use Rattle.text.specs.Listing.{listed, refused, listing_text}

module _ (r : Report) (k : ℕ) (marks : List ℕ) where
  pub if_complete : r.number ≡ 0 → listed (ascii "complete") r k marks ≡ listing_text r k marks
  unfolding listing_text
  if_complete h = rw (eq-eqb r.number 0 h)

  pub if_spent : (r.number ≡ 0 → ⊥) → r.number ≡ 10 → listed (ascii "spent") r k marks ≡ listing_text r k marks
  unfolding listing_text
  if_spent a h = rw (ne_eqb r.number 0 a, eq-eqb r.number 10 h)

  pub if_none : (r.number ≡ 0 → ⊥) → (r.number ≡ 10 → ⊥) → r.number ≡ 11 → listed (ascii "none") r k marks ≡ listing_text r k marks
  unfolding listing_text
  if_none a b h = rw (ne_eqb r.number 0 a, ne_eqb r.number 10 b, eq-eqb r.number 11 h)

  pub if_room : (r.number ≡ 0 → ⊥) → (r.number ≡ 10 → ⊥) → (r.number ≡ 11 → ⊥) → r.number ≡ 12
      → listed (ascii "room") r k marks ≡ listing_text r k marks
  unfolding listing_text
  if_room a b c h = rw (ne_eqb r.number 0 a, ne_eqb r.number 10 b, ne_eqb r.number 11 c, eq-eqb r.number 12 h)

  pub if_refused : (r.number ≡ 0 → ⊥) → (r.number ≡ 10 → ⊥) → (r.number ≡ 11 → ⊥) → (r.number ≡ 12 → ⊥)
      → refused r ≡ listing_text r k marks
  unfolding listing_text
  if_refused a b c d = rw (ne_eqb r.number 0 a, ne_eqb r.number 10 b, ne_eqb r.number 11 c, ne_eqb r.number 12 d)

-- the text of what a program answers
pub text_of_answer : (job : Program) (file rows lent : List ℕ) (budget : ℕ) (r : Report) (c : Report)
    → record { report = r; lent = lent } ≡ job file budget rows → c ≡ (check_call file 0 []).report
    → listing_text r c.k lent ≡ listing_text (job file budget rows).report (check_call file 0 []).report.k (job file budget rows).lent
text_of_answer job file rows lent budget r c answered checked =
    ap (λ (o : Outcome). listing_text o.report c.k o.lent) answered
    ∙ ap (λ (x : Report). listing_text (job file budget rows).report x.k (job file budget rows).lent) checked
