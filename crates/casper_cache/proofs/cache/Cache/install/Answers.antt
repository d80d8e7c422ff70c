use Rattle.std.proofs.Common.{◌<◌, ◌+◌, IsNone, length, sym, subst}
use Rattle.casper_cache.specs.declared.held.Held.{Held}
use Rattle.casper_cache.specs.Holding.{right_of}
use Rattle.casper_cache.specs.Own.{Own}
use Rattle.casper_cache.proofs.SoundSteps.{sound-installed}
use Rattle.casper_cache.proofs.cache.Cache.install.Goals as goal
use Rattle.casper_cache.proofs.cache.Cache.install.Goals.{in-Ok, in-Err}

-- the entry that is put
abbrev entry : goal.Joined-put → Held
entry c = record { page = c.args.page; right = c.args.right; words = c.args.frame }

-- what the caller has shown, of the fields
asked : (c : goal.Joined-put) → IsNone (right_of c.args.page c.self.inside.pages.held) → length c.self.inside.pages.held < c.self.inside.capacity + 4
asked c = subst (λ (own : Own). IsNone (right_of c.args.page own.held) → length own.held < own.capacity + 4) (sym c.self.view_is) c.requires

pub invariant_of-self : goal.invariant_of-self
invariant_of-self c = elim c.match-put.branch [
  | in-Ok w ↦ (rw w.in-Ok.ensures.ok (sound-installed _ (entry c) c.self.invariant.0 (asked c)), c.self.invariant.1, rw w.in-Ok.ensures.ok c.self.invariant.2)
  | in-Err w ↦ rw w.in-Err.ensures.err c.self.invariant
]

pub returns-clause-sound : goal.returns-clause-sound
returns-clause-sound c = (invariant_of-self c).0
