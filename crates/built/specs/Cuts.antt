-- A whole in two parts or three, written one behind another.
use Rattle.std.specs.Prelude.{◌≡◌, ℕ, List, ◌++◌}
use Rattle.records.specs.declared.Records.{Records}
use Rattle.records.specs.Puts.{Puts, HasRoom, Left, left_all, left_is, left_done, left_room, left_more}

-- ---- three parts

pub record Three (whole a b c : List ℕ) : Type 0 where
  pub is : whole ≡ a ++ (b ++ c)

module _ {whole a b c : List ℕ} (cut : Three whole a b c) {r : Records} (room : HasRoom whole r) where
  three_start : Left whole r (a ++ (b ++ c)) r
  three_start = left_is (left_all room) cut.is

  pub three_first : HasRoom a r
  three_first = left_room a (b ++ c) three_start

  module _ {s : Records} (w : Puts a r s) where
    three_left : Left whole r (b ++ c) s
    three_left = left_more a (b ++ c) three_start w

    pub three_second : HasRoom b s
    three_second = left_room b c three_left

    module _ {t : Records} (v : Puts b s t) where
      three_rest : Left whole r c t
      three_rest = left_more b c three_left v

      pub three_third : HasRoom c t
      three_third = three_rest.room

      pub three_all : {end : Records} → Puts c t end → Puts whole r end
      three_all u = left_done three_rest u

-- ---- two parts

pub record Two (whole a b : List ℕ) : Type 0 where
  pub is : whole ≡ a ++ b

module _ {whole a b : List ℕ} (cut : Two whole a b) {r : Records} (room : HasRoom whole r) where
  two_start : Left whole r (a ++ b) r
  two_start = left_is (left_all room) cut.is

  pub two_first : HasRoom a r
  two_first = left_room a b two_start

  module _ {s : Records} (w : Puts a r s) where
    two_left : Left whole r b s
    two_left = left_more a b two_start w

    pub two_second : HasRoom b s
    two_second = two_left.room

    pub two_all : {end : Records} → Puts b s end → Puts whole r end
    two_all v = left_done two_left v
