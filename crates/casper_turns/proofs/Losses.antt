use Rattle.std.proofs.Common.{◌≡◌, ℕ, List, [], ◌∷◌, true, false, not, cond, length, refl, sym, ap, ◌∙◌, subst}
use Rattle.std.specs.Prelude.{Option, None, Some, option_map, unwrap_or}
use Rattle.std.proofs.lemmas.Bool.{cond_both, not-true}
use Rattle.casper_words.specs.Crew.{IsClient, has_member}
use Rattle.casper_trail.specs.declared.mark.Mark.TheVariants.{Rollback}
use Rattle.casper_trail.specs.declared.item.Item.TheVariants as item
use Rattle.casper_trail.specs.Association.{association_of}
use Rattle.casper_trail.proofs.Growth.{alone_without_entries}
use Rattle.casper_trail.proofs.Rounds.{alone_is, association_goes_both_ways}
use Rattle.casper_model.specs.declared.reply.Loss.{Loss}
use Rattle.casper_model.specs.declared.reply.Loss.TheVariants.{Lost, Noted}
use Rattle.casper_model.specs.Both.{Changed}
use Rattle.casper_model.specs.Client.{Client, Fallen}
use Rattle.casper_model.specs.FallLaw.{EachFallenIsMarked}
use Rattle.casper_model.specs.Frozen.{stabilisation_of}
use Rattle.casper_model.specs.Leave.{vanish, vanished_by}
use Rattle.casper_model.specs.Loss.{lose, lose_by, lost_in, rolled_back, fallen_behind}
use Rattle.casper_model.specs.Own.{Own}
use Rattle.casper_model.specs.Shared.{Shared, client_at, of_client, fallen_at, change_stabilisation}
use Rattle.casper_model.specs.Stabilisation.{Stabilisation, is_gathering, with_noted}
use Rattle.casper_model.proofs.FallRuns.{marked_lose}
use Rattle.casper_model.proofs.LossRights.{spares_lose}
use Rattle.casper_model.proofs.MarkSteps.{marks_lose}
use Rattle.casper_model.proofs.Places.{client_each}
use Rattle.casper_model.proofs.RoomSteps.{lose_within}
use Rattle.casper_turns.specs.Good.{IsGoodShared, IsGoodWith}
use Rattle.casper_turns.specs.Kept.{KeptByTurn, KeptForAll}
use Rattle.casper_turns.specs.CommitsNothing.{CommitsNothing}
use Rattle.casper_turns.proofs.Compose.{apart_again, still_itself, still_again, reads_while_apart}
use Rattle.casper_turns.proofs.ForAll.{ClientStays, client_itself, kept_for_all}
use Rattle.casper_turns.proofs.FrozenChanges.{StaysFrozen, LeavesWriteOuts}
use Rattle.casper_turns.proofs.LeaveFrozen.{lose_stays}
use Rattle.casper_turns.proofs.Lists.{contains_filter, not_some}
use Rattle.casper_turns.proofs.NotedMembers.{lose_members}
use Rattle.casper_turns.proofs.NotedUp.{lose_up}
use Rattle.casper_turns.proofs.Stages.{kept_absent}
use Rattle.casper_turns.proofs.StillLeft.{left_as, still_left, still_same, undecided}

-- a fallen client is in no other's association
fallen_alone : (shared : Shared) (lost who : ℕ) (client : Client) (fallen : Fallen) → EachFallenIsMarked shared → fallen_at shared lost ≡ None
    → client_at shared who ≡ Some client → client.fallen ≡ Some fallen → has_member who (association_of shared.trail lost) ≡ true → ⊥
fallen_alone shared lost who client fallen marked up live fell member =
    let has = marked who client fallen live fell in
    let is : lost ≡ who =
    (alone_is who lost
    (ap (has_member lost) (sym (alone_without_entries shared.trail who has.no_open)) ∙ association_goes_both_ways shared.trail lost who member)).1 in
    not_some fallen (sym up ∙ ap (fallen_at shared) is ∙ ap (of_client None (λ (one : Client). one.fallen)) live ∙ fell)

-- what a rollback leaves of each client
pub client_rolled_back : (shared : Shared) (lost : ℕ) → EachFallenIsMarked shared → fallen_at shared lost ≡ None → (who : ℕ)
    → ClientStays shared.trail (client_at shared who) (client_at (rolled_back shared lost) who)
client_rolled_back shared lost marked up who =
    subst (ClientStays shared.trail (client_at shared who)) (sym (client_each change shared who)) (by_place (client_at shared who) refl)
  where
    members : List ℕ
    members = association_of shared.trail lost

    change : ℕ → Client → Client
    change number client = cond (has_member number (association_of shared.trail lost)) (fallen_behind shared.trail number client) client

    falling : (client : Client) → client.fallen ≡ None → ClientStays shared.trail (Some client) (Some (fallen_behind shared.trail who client))
    falling client none = record {
      live = refl;
      cap = refl;
      lost = λ fallen was. absurd (not_some fallen (sym none ∙ was));
      falls = λ fallen was is. (ap (λ (one : Option Fallen). (unwrap_or one fallen).mark) (sym is), ap (λ (one : Option Fallen). (unwrap_or one fallen).seen) (sym is));
      asks = λ is. absurd (not_some _ (sym is));
      rights = λ is. absurd (not_some _ (sym is));
    }

    by_fallen : (client : Client) → client_at shared who ≡ Some client → has_member who (association_of shared.trail lost) ≡ true → (fallen : Option Fallen) → client.fallen ≡ fallen
        → ClientStays shared.trail (Some client) (Some (fallen_behind shared.trail who client))
    by_fallen client live member None e = falling client e
    by_fallen client live member (Some fallen) e = absurd (fallen_alone shared lost who client fallen marked up live e member)

    by_place : (place : Option Client) → client_at shared who ≡ place → ClientStays shared.trail place (option_map (change who) place)
    by_place None e = client_itself shared.trail None
    by_place (Some client) e =
        cond_both (has_member who (association_of shared.trail lost)) (fallen_behind shared.trail who client) client
        (λ (after : Client). ClientStays shared.trail (Some client) (Some after))
        (λ member. by_fallen client e member client.fallen refl) (λ out. client_itself shared.trail (Some client))

-- what a loss leaves of what all know
record LossKeeps (shared after : Shared) : Type 0 where
  clients : (who : ℕ) → ClientStays shared.trail (client_at shared who) (client_at after who)
  limit : after.limit ≡ shared.limit
  pages : after.pages ≡ shared.pages
  still : CommitsNothing shared after

-- a rollback that ends no stabilisation that is sealed or in doubt
still_rolled_back : (shared : Shared) (lost : ℕ) → LeavesWriteOuts shared (rolled_back shared lost) → CommitsNothing shared (rolled_back shared lost)
still_rolled_back shared lost left =
    still_left shared (rolled_back shared lost) (item.Mark (Rollback lost (association_of shared.trail lost)) ∷ []) refl refl left
    (λ one inside held who member.
    let is = left_as shared (rolled_back shared lost) left one one.phase refl inside held in
    let kept = contains_filter (λ (x : Stabilisation). not (has_member x.lead (association_of shared.trail lost))) shared.stabilisations is.same is.there in
    undecided shared.trail (Rollback lost (association_of shared.trail lost)) refl one.lead who
    (ap (λ lead. has_member lead (association_of shared.trail lost)) (sym is.lead) ∙ not-true (has_member is.same.lead (association_of shared.trail lost)) kept.1)
    member)
    (λ one inside held. refl)

leaves_rolled_back : (shared : Shared) (lost : ℕ) → EachFallenIsMarked shared → fallen_at shared lost ≡ None → StaysFrozen shared (rolled_back shared lost)
    → LossKeeps shared (rolled_back shared lost)
leaves_rolled_back shared lost marked up stays = record {
  clients = client_rolled_back shared lost marked up;
  limit = refl;
  pages = refl;
  still = still_rolled_back shared lost stays.left;
}

lost_leaves : (shared : Shared) (who unrecorded : ℕ) → EachFallenIsMarked shared → fallen_at shared who ≡ None → (one : Option Stabilisation)
    → StaysFrozen shared (lost_in shared who unrecorded one).shared → LossKeeps shared (lost_in shared who unrecorded one).shared
lost_leaves shared who unrecorded marked up None stays = leaves_rolled_back shared who marked up stays
lost_leaves shared who unrecorded marked up (Some one) stays' =
    cond_both (is_gathering one.phase) _ _ (λ (done : Changed Loss). StaysFrozen shared done.shared → LossKeeps shared done.shared)
    (λ gathering stays. leaves_rolled_back shared who marked up stays)
    (λ held stays. record {
      clients = λ number. client_itself shared.trail (client_at shared number);
      limit = refl;
      pages = refl;
      still = still_same shared _ refl stays.left;
    })
    stays'

lose_by_leaves : (shared : Shared) (who : ℕ) → EachFallenIsMarked shared → (fallen : Option Fallen) → fallen_at shared who ≡ fallen
    → StaysFrozen shared (lose_by shared who fallen).shared → LossKeeps shared (lose_by shared who fallen).shared
lose_by_leaves shared who marked (Some fallen) e stays = record {
  clients = λ number. client_itself shared.trail (client_at shared number);
  limit = refl;
  pages = refl;
  still = still_itself shared;
}
lose_by_leaves shared who marked None e stays = lost_leaves shared who 0 marked e (stabilisation_of shared who) stays

-- a client is declared lost
module _ (shared : Shared) (who : ℕ) (good : IsGoodShared shared) (is : IsClient who) where
  stays : StaysFrozen shared (lose shared who).shared
  stays = lose_stays shared who is good.frozen

  leaves : LossKeeps shared (lose shared who).shared
  leaves = lose_by_leaves shared who good.marked (fallen_at shared who) refl stays

  pub lose_kept : KeptForAll shared (lose shared who).shared
  lose_kept =
      kept_for_all shared (lose shared who).shared good
      (record {
        marks = marks_lose shared who;
        spares = spares_lose shared who;
        clients = leaves.clients;
        limit = leaves.limit;
        pages = leaves.pages;
        marked = marked_lose shared who good.marked;
        frozen = stays.frozen;
        noted = lose_members shared who good.noted;
        unfallen = lose_up shared who good.frozen good.noted good.unfallen;
        within = lose_within shared who good.within;
      })

  pub lose_still : CommitsNothing shared (lose shared who).shared
  lose_still = leaves.still

-- how many calls are lost does not matter
lost_alike : (shared : Shared) (who one other : ℕ) (stabilisation : Option Stabilisation)
    → (lost_in shared who one stabilisation).shared ≡ (lost_in shared who other stabilisation).shared
lost_alike shared who one other None = refl
lost_alike shared who one other (Some held) =
    elim (is_gathering held.phase) as
    (λ gathering.
    (cond {A = Changed Loss} gathering (record { reply = Lost (length shared.trail) one; shared = rolled_back shared who })
    (record { reply = Noted held.lead one; shared = change_stabilisation held.lead (with_noted who) shared })).shared
    ≡ (cond {A = Changed Loss} gathering (record { reply = Lost (length shared.trail) other; shared = rolled_back shared who })
    (record { reply = Noted held.lead other; shared = change_stabilisation held.lead (with_noted who) shared })).shared)
    [ true ↦ refl | false ↦ refl ]

vanished_alike : (shared : Shared) (own : Own) (fallen : Option Fallen) → (vanished_by shared own fallen).shared ≡ (lose_by shared own.who fallen).shared
vanished_alike shared own (Some fallen) = refl
vanished_alike shared own None = lost_alike shared own.who _ 0 (stabilisation_of shared own.who)

-- a client vanishes: it is lost, and then absent
pub vanish_kept : (shared : Shared) (own : Own) → IsGoodShared shared → IsGoodWith shared own
    → KeptByTurn shared own (vanish shared own).shared (vanish shared own).own
vanish_kept shared own good mine = record {
  who = refl;
  capacity = refl;
  good = second.good;
  mine = second.mine;
  others = λ other apart. apart_again other shared lost (vanish shared own).shared (first.apart other) (second.others other apart);
  still = still_again shared lost (vanish shared own).shared (subst (CommitsNothing shared) (sym same) (lose_still shared own.who good mine.client)) second.still;
  right = λ base right.
      second.right base
      (record { legal = first.legal base right.legal; reads = reads_while_apart base shared lost own mine (first.apart own.who) right.reads });
}
  where
    lost : Shared
    lost = (vanished_by shared own (fallen_at shared own.who)).shared

    same : lost ≡ (lose shared own.who).shared
    same = vanished_alike shared own (fallen_at shared own.who)

    first : KeptForAll shared lost
    first = subst (KeptForAll shared) (sym same) (lose_kept shared own.who good mine.client)

    second : KeptByTurn lost own (vanish shared own).shared (vanish shared own).own
    second = kept_absent lost own first.good mine.client
