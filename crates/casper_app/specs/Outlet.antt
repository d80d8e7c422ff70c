use Rattle.std.specs.Prelude.{Bool, true, false, List, [], if◌then◌else◌}
use Rattle.casper_space.specs.declared.answer.Answer.{Answer}
use Rattle.casper_app.specs.declared.outlet.Outlet.{Outlet}
use Rattle.casper_app.specs.declared.outlet.Outlet.TheVariants.{Written, Kept, LeftOut}

abbrev pub keeps : Outlet → Bool
keeps Written = true
keeps Kept = true
keeps LeftOut = false

abbrev pub writes : Outlet → Bool
writes Written = true
writes Kept = false
writes LeftOut = false

-- the answers that are kept, and those that are to be written
abbrev pub kept_of : Outlet → List Answer → List Answer
kept_of outlet given = if keeps outlet then given else []

abbrev pub written_of : Outlet → List Answer → List Answer
written_of outlet given = if writes outlet then given else []
