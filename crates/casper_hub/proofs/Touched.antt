use Rattle.std.proofs.Common.{◌≡◌, ℕ, List, [], ◌∷◌, false, sym, ap, ⊎_elim, Contains, arith}
use Rattle.casper_words.specs.declared.page.Want.{Want}
use Rattle.casper_trail.specs.declared.entry.Entry.{Entry}
use Rattle.casper_trail.specs.Value.{writes_page}
use Rattle.casper_trail.specs.Calls.{touch_by}
use Rattle.casper_model.specs.Acquire.{touches_by}
use Rattle.casper_model.proofs.Entries.{contains_cases}

-- touches write nothing
pub touches_write_nothing : (who : ℕ) (wants : List Want) (page : ℕ) (entry : Entry) → Contains (touches_by who wants) entry → writes_page page entry ≡ false
touches_write_nothing who [] page entry inside = absurd (omega (arith, inside.1))
touches_write_nothing who (want ∷ wants) page entry inside =
    ⊎_elim (λ is. ap (writes_page page) (sym is)) (λ later. touches_write_nothing who wants page entry later)
    (contains_cases (touch_by who want.page) (touches_by who wants) entry inside)
