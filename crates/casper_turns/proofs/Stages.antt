use Rattle.std.proofs.Common.{◌≡◌, ◌<◌, ℕ, [], true, ◌==◌, min, length, refl, sym, ap, ◌∙◌, subst, arith}
use Rattle.std.specs.Prelude.{Option, None, Some}
use Rattle.std.proofs.Math.Nat.{min-le_left}
use Rattle.std.proofs.lemmas.Bool.{cond_both}
use Rattle.std.proofs.lemmas.List.{length-set}
use Rattle.casper_words.specs.Crew.{IsClient}
use Rattle.casper_model.specs.declared.reply.JoinRefusal.{JoinRefusal}
use Rattle.casper_model.specs.Both.{Both, Turned}
use Rattle.casper_model.specs.Client.{Client, Fallen, new_client}
use Rattle.casper_model.specs.Join.{join, joined_by}
use Rattle.casper_model.specs.Leave.{absent}
use Rattle.casper_model.specs.Opening.{told_of_fall}
use Rattle.casper_model.specs.Own.{Own, blank}
use Rattle.casper_model.specs.Rights.{Agrees}
use Rattle.casper_model.specs.Room.{most_cap, free_room}
use Rattle.casper_model.specs.RoomLaw.{IsWithin}
use Rattle.casper_model.specs.Shared.{Shared, client_at, of_client, fallen_at, is_live, place_client}
use Rattle.casper_model.proofs.Places.{client_placed, client_unplaced}
use Rattle.casper_model.proofs.RoomSteps.{told_within, joined_within, vanish_within}
use Rattle.casper_model.proofs.TurnRights.{keeps_told}
use Rattle.casper_turns.specs.Good.{IsGoodShared, IsGoodWith}
use Rattle.casper_turns.specs.Kept.{KeptByTurn}
use Rattle.casper_turns.proofs.Compose.{apart_itself, apart_again, still_itself, still_again}
use Rattle.casper_turns.proofs.Emptied.{kept_emptied}
use Rattle.casper_turns.proofs.FrozenChanges.{stays_same}
use Rattle.casper_turns.proofs.LeaveFrozen.{absent_stays, less_placed}
use Rattle.casper_turns.proofs.NotedMembers.{notes_same, notes_absent}
use Rattle.casper_turns.proofs.Recorded.{stands_good}
use Rattle.casper_turns.proofs.TurnFrozen.{told_stays}

-- nothing done, and one turn or stage after another
pub kept_itself : (shared : Shared) (own : Own) → IsGoodShared shared → IsGoodWith shared own → KeptByTurn shared own shared own
kept_itself shared own good mine = record {
  who = refl;
  capacity = refl;
  good = good;
  mine = mine;
  others = λ other apart. apart_itself other shared;
  still = still_itself shared;
  right = λ base right. right;
}

pub kept_again : (shared : Shared) (own : Own) (middle : Shared) (between : Own) (after : Shared) (own_after : Own) → KeptByTurn shared own middle between
    → KeptByTurn middle between after own_after → KeptByTurn shared own after own_after
kept_again shared own middle between after own_after first second = record {
  who = second.who ∙ first.who;
  capacity = second.capacity ∙ first.capacity;
  good = second.good;
  mine = second.mine;
  others = λ other apart. apart_again other shared middle after (first.others other apart) (second.others other (λ same. apart (same ∙ first.who)));
  still = still_again shared middle after first.still second.still;
  right = λ base right. second.right base (first.right base right);
}

-- a fallen client is told
pub kept_told : (shared : Shared) (own : Own) (fallen : Fallen) → IsGoodShared shared → IsGoodWith shared own → is_live shared own.who ≡ true
    → fallen_at shared own.who ≡ Some fallen → KeptByTurn shared own (told_of_fall shared own).shared (told_of_fall shared own).own
kept_told shared own fallen good mine live e =
    let keeps = keeps_told shared own fallen (stands_good shared own good mine live) e in
    kept_emptied shared own (told_of_fall shared own).shared (told_of_fall shared own).own good mine.client
    (record {
      trail = refl;
      limit = refl;
      pages = refl;
      who = refl;
      capacity = refl;
      held = refl;
      pending = refl;
      others = keeps.others;
      places = keeps.places;
      agrees = keeps.agrees;
      up = keeps.up;
      stays = told_stays shared own good.frozen;
      notes = notes_same shared (told_of_fall shared own).shared refl;
      within = told_within shared own good.within;
      most = mine.most;
    })

below_places : (shared : Shared) (who : ℕ) → IsGoodShared shared → IsClient who → who < length shared.clients
below_places shared who good is = let places : length shared.clients ≡ 33 = good.places in let most = is.1 in omega arith

-- a client is set absent
pub kept_absent : (shared : Shared) (own : Own) → IsGoodShared shared → IsClient own.who
    → KeptByTurn shared own (absent (record { shared = shared; own = own })).shared (blank own.who own.capacity)
kept_absent shared own good is =
    kept_emptied shared own (absent both).shared (blank own.who own.capacity) good is
    (record {
      trail = refl;
      limit = refl;
      pages = refl;
      who = refl;
      capacity = refl;
      held = refl;
      pending = refl;
      others = λ other apart. client_unplaced own.who None shared other apart;
      places = length-set shared.clients own.who None ∙ good.places;
      agrees = subst (λ place. Agrees place (blank own.who own.capacity)) (sym (client_placed own.who None shared below)) (refl, refl);
      up = ap (of_client None (λ (client : Client). client.fallen)) (client_placed own.who None shared below);
      stays = absent_stays both below good.frozen;
      notes = notes_absent both;
      within = vanish_within shared own (Some (record { mark = 0; dropped = 0; seen = [] })) below good.within;
      most = omega arith;
    })
  where
    both : Both
    both = record { shared = shared; own = own }

    below : own.who < length shared.clients
    below = below_places shared own.who good is

-- a client joins: it is promised entries, and has nothing
module _ (shared : Shared) (own : Own) (good : IsGoodShared shared) (mine : IsGoodWith shared own) where
  abbrev cap : ℕ
  cap = min most_cap (free_room shared)

  joining : client_at shared own.who ≡ None → IsWithin (place_client own.who (Some (new_client cap)) shared)
      → KeptByTurn shared own (place_client own.who (Some (new_client cap)) shared) (record (blank own.who own.capacity) { cap = cap })
  joining none within =
      kept_emptied shared own (place_client own.who (Some (new_client cap)) shared) (record (blank own.who own.capacity) { cap = cap }) good mine.client
      (record {
        trail = refl;
        limit = refl;
        pages = refl;
        who = refl;
        capacity = refl;
        held = refl;
        pending = refl;
        others = λ other apart. client_unplaced own.who (Some (new_client cap)) shared other apart;
        places = length-set shared.clients own.who (Some (new_client cap)) ∙ good.places;
        agrees =
            subst (λ place. Agrees place (record (blank own.who own.capacity) { cap = cap })) (sym (client_placed own.who (Some (new_client cap)) shared below))
            (refl, λ page right. refl);
        up = ap (of_client None (λ (client : Client). client.fallen)) (client_placed own.who (Some (new_client cap)) shared below);
        stays = stays_same shared (place_client own.who (Some (new_client cap)) shared) refl (λ one inside. refl)
            (less_placed shared own.who (Some (new_client cap)) below refl) good.frozen;
        notes = notes_same shared (place_client own.who (Some (new_client cap)) shared) refl;
        within = within;
        most = min-le_left most_cap (free_room shared);
      })
    where
      below : own.who < length shared.clients
      below = below_places shared own.who good mine.client

  joined_kept : (place : Option Client) → client_at shared own.who ≡ place → IsWithin (joined_by shared own place).shared
      → KeptByTurn shared own (joined_by shared own place).shared (joined_by shared own place).own
  joined_kept (Some client) is within = kept_itself shared own good mine
  joined_kept None none within' =
      cond_both (free_room shared == 0) _ _
      (λ (turn : Turned (Option JoinRefusal)). IsWithin turn.shared → KeptByTurn shared own turn.shared turn.own)
      (λ full within. kept_itself shared own good mine) (λ free within. joining none within) within'

  pub join_kept : KeptByTurn shared own (join shared own).shared (join shared own).own
  join_kept =
      joined_kept (client_at shared own.who) refl
      (joined_within shared own (client_at shared own.who) refl (below_places shared own.who good mine.client) good.within)
