-- `symbols::symbol::position_at` meets its contract. Assumes nothing.
use mathlib.Core.Path.{refl}
use Rattle.symbols.specs.Before.{place_of, symbol_is}
use Rattle.symbols.proofs.symbol.position_at.Goals as goal

pub returns : goal.returns
returns c =
    symbol_is _ _ c.requires.named _ _ refl (place_of _ _ c.requires.named c.number_at.result c.number_at.ensures.digits)
