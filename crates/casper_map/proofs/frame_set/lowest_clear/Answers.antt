use Rattle.std.proofs.Common.{ℕ, sym, subst}
use Rattle.casper_map.specs.Bits.{IsLowestClear}
use Rattle.casper_map.proofs.BitLemmas.{clear_found, clear_nowhere, shifted_one, filled_fits}
use Rattle.casper_map.proofs.frame_set.lowest_clear.Goals as goal

pub returns-then-filled : goal.returns-then-filled
returns-then-filled c place high within =
    clear_nowhere c.args.word c.args.from _ place (shifted_one c.args.word c.args.from c.requires) c.if-filled.true high within

pub returns : goal.returns
returns c =
    subst (λ (place : ℕ). IsLowestClear c.args.word c.args.from place) (sym c.trailing_ones.ensures)
    (clear_found c.args.word c.args.from _ (shifted_one c.args.word c.args.from c.requires)
    (filled_fits c.args.word c.args.from c.ranges.word.fits c.requires) c.if-filled.false)
