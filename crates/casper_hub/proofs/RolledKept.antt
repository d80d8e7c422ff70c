use Rattle.std.proofs.Common.{◌≡◌, ℕ, [], subst}
use Rattle.std.specs.Prelude.{None, Option}
use Rattle.casper_words.specs.Crew.{IsClient}
use Rattle.casper_model.specs.Client.{Fallen}
use Rattle.casper_model.specs.Loss.{lose_by, rolled_back}
use Rattle.casper_model.specs.Shared.{Shared, fallen_at}
use Rattle.casper_turns.specs.Good.{IsGoodShared}
use Rattle.casper_turns.specs.Kept.{KeptForAll}
use Rattle.casper_turns.proofs.LeaveFrozen.{rolled_back_frozen}
use Rattle.casper_turns.proofs.Lists.{nothing_in}
use Rattle.casper_turns.proofs.Losses.{lose_kept}
use Rattle.casper_turns.proofs.NotedMembers.{rolled_back_members}
use Rattle.casper_turns.proofs.NotedUp.{rolled_back_up}

-- What a rollback of the machine's keeps, whatever stabilisations there are.

-- the shared part without its stabilisations
abbrev bare : Shared → Shared
bare shared = record shared { stabilisations = [] }

bare_good : (shared : Shared) → IsGoodShared shared → IsGoodShared (bare shared)
bare_good shared good = record {
  places = good.places;
  nobody = good.nobody;
  exclusive = good.exclusive;
  exact = good.exact;
  writers = good.writers;
  bare = good.bare;
  marked = good.marked;
  frozen = record {
    leads = λ one inside. absurd (nothing_in one inside);
    apart = tt;
    quiet = λ one inside. absurd (nothing_in one inside);
  };
  noted = λ one lost inside. absurd (nothing_in one inside);
  unfallen = λ one lost inside. absurd (nothing_in one inside);
  within = good.within;
  caps = good.caps;
}

-- without stabilisations a loss rolls back at once
lost_kept : (shared : Shared) (lost : ℕ) → IsGoodShared shared → IsClient lost → fallen_at shared lost ≡ None → KeptForAll (bare shared) (rolled_back (bare shared) lost)
lost_kept shared lost good is up =
    subst (λ (fallen : Option Fallen). KeptForAll (bare shared) (lose_by (bare shared) lost fallen).shared) up (lose_kept (bare shared) lost (bare_good shared good) is)

-- and what it keeps is no matter of the stabilisations, but for those that are left
pub rolled_back_kept : (shared : Shared) (lost : ℕ) → IsGoodShared shared → IsClient lost → fallen_at shared lost ≡ None → KeptForAll shared (rolled_back shared lost)
rolled_back_kept shared lost good is up =
    let kept = lost_kept shared lost good is up in record {
      good = record {
        places = kept.good.places;
        nobody = kept.good.nobody;
        exclusive = kept.good.exclusive;
        exact = kept.good.exact;
        writers = kept.good.writers;
        bare = kept.good.bare;
        marked = kept.good.marked;
        frozen = rolled_back_frozen shared lost good.frozen;
        noted = rolled_back_members shared lost good.noted;
        unfallen = rolled_back_up shared lost good.frozen good.noted good.unfallen;
        within = kept.good.within;
        caps = kept.good.caps;
      };
      apart = λ who. let apart = kept.apart who in record {
        more = apart.more;
        trail = apart.trail;
        limit = apart.limit;
        pages = apart.pages;
        calls = apart.calls;
        live = apart.live;
        cap = apart.cap;
        lost = apart.lost;
        falls = apart.falls;
        asks = apart.asks;
        rights = apart.rights;
        agrees = apart.agrees;
        words = apart.words;
      };
      legal = kept.legal;
    }
