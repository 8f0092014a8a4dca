-- Writing on a page part after part, and the laws by which the parts follow each other.
use Rattle.std.specs.Prelude.{ℕ, refl, ◌≡◌, List, [], ◌++◌}
use Rattle.std.specs.Borrow.{MutBor}
use Rattle.std.proofs.Common.{◌∙◌, subst}
use Rattle.text.specs.Page.{Holds, Appends}
use Rattle.text.specs.PageLaws.{appends_both, appends_is, appends_none, from_start, Leaves, leaves_all}
use Rattle.text.specs.declared.page.Page.{Page}

-- a part was written on the page, which is the same lent slice
pub record Puts (part : List ℕ) (before after : Page) : Type 0 where
  pub bytes : Appends part before.bytes.now before.end after.bytes.now after.end
  pub lent : after.bytes.ghost_name ≡ before.bytes.ghost_name

-- a slice is lent as a page, and nothing is written yet
pub record Fresh (out : MutBor (List ℕ)) (page : Page) : Type 0 where
  pub bytes : page.bytes.now ≡ out.now
  pub end : page.end ≡ 0
  pub lent : page.bytes.ghost_name ≡ out.ghost_name

-- nothing is written
pub puts_none : (page : Page) → Puts [] page page
puts_none page = record { bytes = appends_none page.bytes.now page.end; lent = refl }

-- a part by another name
pub puts_is : {p q : List ℕ} {a b : Page} → p ≡ q → Puts p a b → Puts q a b
puts_is e wrote = record { bytes = appends_is e wrote.bytes; lent = wrote.lent }

-- a part and then another
pub puts_both : {p q : List ℕ} {a b c : Page} → Puts p a b → Puts q b c → Puts (p ++ q) a c
puts_both first then = record { bytes = appends_both first.bytes then.bytes; lent = then.lent ∙ first.lent }

-- what is written on a fresh page is the text of the slice that was lent
pub puts_out : {text now : List ℕ} {out : MutBor (List ℕ)} {page after : Page} → Fresh out page → Puts text page after
    → after.bytes.now ≡ now → Holds out.now text now after.end
puts_out {text} {now} {out} {page} {after} fresh wrote e =
    subst (λ (l : List ℕ). Holds out.now text l after.end) e
    (from_start
    (subst (λ (l : List ℕ). Appends text l 0 after.bytes.now after.end) fresh.bytes
    (subst (λ (n : ℕ). Appends text page.bytes.now n after.bytes.now after.end) fresh.end wrote.bytes)))

-- What is left to write comes to the whole, on the same lent slice.
pub record Left (all : List ℕ) (start : Page) (rest : List ℕ) (now : Page) : Type 0 where
  pub bytes : Leaves all start.bytes.now start.end rest now.bytes.now now.end
  pub lent : now.bytes.ghost_name ≡ start.bytes.ghost_name

pub left_all : (all : List ℕ) (start : Page) → Left all start all start
left_all all start = record { bytes = leaves_all all start.bytes.now start.end; lent = refl }

-- the rest is written
pub left_done : {all rest : List ℕ} {start now after : Page} → Left all start rest now → Puts rest now after → Puts all start after
left_done {after = after} left wrote =
    record { bytes = left.bytes after.bytes.now after.end wrote.bytes; lent = wrote.lent ∙ left.lent }
