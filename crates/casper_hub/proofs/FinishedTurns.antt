use Rattle.std.proofs.Common.{◌≡◌, ◌==◌, ℕ, List, true, false, length, refl, sym, ap, ◌∙◌, subst, Contains}
use Rattle.std.specs.Prelude.{Option, None, Some, find, option_map}
use Rattle.std.specs.List.{list_any}
use Rattle.std.proofs.lemmas.Bool.{eqb-true, or_right}
use Rattle.casper_words.specs.Crew.{has_member}
use Rattle.casper_trail.specs.declared.item.Item.{Item}
use Rattle.casper_trail.specs.Value.{value_of}
use Rattle.casper_trail.specs.Parts.{live_entries, stable_entries}
use Rattle.casper_trail.specs.Modified.{is_modified}
use Rattle.casper_trail.specs.Association.{association_of}
use Rattle.casper_trail.proofs.Rounds.{association_holds_its_client, association_of_a_member}
use Rattle.casper_gather.specs.declared.stab.Stab.{Stab}
use Rattle.casper_gather.specs.declared.stab.Phase.TheVariants as phase
use Rattle.casper_gather.specs.declared.resolved.Resolved.{Resolved}
use Rattle.casper_gather.specs.declared.resolved.Resolved.TheVariants as resolved
use Rattle.casper_gather.specs.Bookkeeping.{stabilisation_of, resolved_by, failure_of}
use Rattle.casper_gather.specs.FinishLaws.{carried_out, is_failure}
use Rattle.casper_gather.specs.Unended.{led_by, first_in, is_doubtful}
use Rattle.casper_gather.specs.UnendedLaws.{stabilisations_of}
use Rattle.casper_gather.proofs.Outcomes.{finish_carries_out}
use Rattle.casper_gather.proofs.Shown.{found_by_lead, found_in_doubt}
use Rattle.casper_model.specs.declared.outcome.Kept.{Kept}
use Rattle.casper_model.specs.declared.outcome.Kept.TheVariants as kept
use Rattle.casper_model.specs.declared.outcome.Outcome.{Outcome}
use Rattle.casper_model.specs.declared.outcome.Outcome.TheVariants as outcome
use Rattle.casper_model.specs.declared.outcome.Finished.{Finished}
use Rattle.casper_model.specs.declared.outcome.Finished.TheVariants as finished
use Rattle.casper_model.specs.Both.{Changed}
use Rattle.casper_model.specs.Finish.{finish, finished_by, settled, settled_by}
use Rattle.casper_model.specs.Shared.{Shared}
use Rattle.casper_model.specs.Stabilisation.{Stabilisation, Phase as MachinePhase, Gathering, Sealed, Doubtful, is_gathering, is_doubtful as machine_doubts}
use Rattle.casper_turns.specs.Kept.{IsHeld, OtherLeadsStandStill}
use Rattle.casper_turns.specs.KeepsClient.{KeepsClient as SharedKeepsClient}
use Rattle.casper_turns.proofs.Finishes.{finish_kept, finish_others, settled_kept, settled_others}
use Rattle.casper_turns.proofs.Lists.{find_found, any_of}
use Rattle.casper_hub.specs.Committing.{Ends, Commits, ComesIntoDoubt, doubtful_in, in_doubt, IsHeldBy, OtherLeadsStand}
use Rattle.casper_hub.specs.GoesOn.{KeepsClient}
use Rattle.casper_hub.specs.HubView.{HubView, PagesView, FallenView, fallen_in, is_live}
use Rattle.casper_hub.specs.RollingBack.{RollsBack, is_mark_due}
use Rattle.casper_hub.specs.Shows.{Shows, fallen_of}
use Rattle.casper_hub.specs.Sound.{IsSound}
use Rattle.casper_hub.specs.Turns.{IsChange}
use Rattle.casper_hub.specs.Words.{ServerIsRight, live_value, stored_value, FramesAreRight}
use Rattle.casper_hub.proofs.Committed.{shows_committed, shows_ended}
use Rattle.casper_hub.proofs.Doubted.{shows_doubt}
use Rattle.casper_hub.proofs.RolledBack.{shows_rolled_back}
use Rattle.casper_hub.proofs.Showing.{fall_shown}
use Rattle.casper_hub.proofs.StandsFor.{stands_for, going}

-- A hub that a finish leaves stands for what the machine's finish leaves.

-- the stabilisation that the server found, as the hub shows it
pub found_led : (hub : HubView) (lead : ℕ) (each : List Stab) (one : Stab) → stabilisations_of each ≡ hub.stabilisations → led_by lead each ≡ Some one
    → find (λ (x : Stabilisation). x.lead == lead) hub.stabilisations ≡ Some (stabilisation_of one)
found_led hub lead each one same led =
    ap (find (λ (x : Stabilisation). x.lead == lead)) (sym same) ∙ sym (found_by_lead lead each) ∙ ap (option_map stabilisation_of) led

-- the same of the hub that a function shows
pub found_seen : (view hub : HubView) (lead : ℕ) (each : List Stab) (one : Stab) (result : Option Stab) → view ≡ hub → stabilisations_of each ≡ view.stabilisations
    → result ≡ led_by lead each → result ≡ Some one → find (λ (x : Stabilisation). x.lead == lead) hub.stabilisations ≡ Some (stabilisation_of one)
found_seen view hub lead each one result seen same is some =
    subst (λ (h : HubView). find (λ (x : Stabilisation). x.lead == lead) h.stabilisations ≡ Some (stabilisation_of one)) seen (found_led view lead each one same (sym is ∙ some))

-- and where it found none there is none
pub none_led : (hub : HubView) (lead : ℕ) (each : List Stab) → stabilisations_of each ≡ hub.stabilisations → led_by lead each ≡ None
    → find (λ (x : Stabilisation). x.lead == lead) hub.stabilisations ≡ None
none_led hub lead each same led =
    ap (find (λ (x : Stabilisation). x.lead == lead)) (sym same) ∙ sym (found_by_lead lead each) ∙ ap (option_map stabilisation_of) led

-- without a stabilisation nothing happens
pub nothing_finished : (hub : HubView) (lead : ℕ) (how : Outcome) → find (λ (x : Stabilisation). x.lead == lead) hub.stabilisations ≡ None
    → IsChange (λ shared. finish shared lead how) None hub hub
nothing_finished hub lead how none = record {
  replies = λ shared shows. sym (ap (λ (found : Option Stabilisation). (finished_by shared how found).reply) (same shared shows));
  shows = λ shared shows. subst (λ (found : Option Stabilisation). Shows (finished_by shared how found).shared hub) (sym (same shared shows)) shows;
}
  where
    same : (shared : Shared) → Shows shared hub → find (λ (x : Stabilisation). x.lead == lead) shared.stabilisations ≡ None
    same shared shows = ap (find (λ (x : Stabilisation). x.lead == lead)) shows.stabilisations ∙ none

-- what the outcome comes to is carried out
module _ (hub : HubView) (lead : ℕ) (how : Outcome) (one : Stab) (found : find (λ (x : Stabilisation). x.lead == lead) hub.stabilisations ≡ Some (stabilisation_of one)) where
  pub is_there : Contains hub.stabilisations (stabilisation_of one)
  is_there = (find_found (λ (x : Stabilisation). x.lead == lead) hub.stabilisations (stabilisation_of one) found).0

  pub has_lead : one.lead ≡ lead
  has_lead = eqb-true one.lead lead (find_found (λ (x : Stabilisation). x.lead == lead) hub.stabilisations (stabilisation_of one) found).1

  pub is_sealed : IsHeldBy hub lead → is_gathering (stabilisation_of one).phase ≡ false
  is_sealed held = held (stabilisation_of one) is_there has_lead

  -- the machine's finish
  abbrev carried : Shared → Resolved → Changed (Option Finished)
  carried shared to = let done = carried_out shared one how to in record { reply = Some done.reply; shared = done.shared }

  same : (shared : Shared) → Shows shared hub → (to : Resolved) → resolved_by one how ≡ to → finish shared lead how ≡ carried shared to
  same shared shows to is =
      ap (finished_by shared how) (ap (find (λ (x : Stabilisation). x.lead == lead)) shows.stabilisations ∙ found)
      ∙ ap (λ (done : Changed Finished). record { reply = Some done.reply; shared = done.shared }) (finish_carries_out shared one how ∙ ap (carried_out shared one how) is)

  made : (to : Resolved) (reply : Finished) (after : HubView) → resolved_by one how ≡ to
      → ((shared : Shared) → Shows shared hub → reply ≡ (carried_out shared one how to).reply)
      → ((shared : Shared) → Shows shared hub → Shows (carried_out shared one how to).shared after)
      → IsChange (λ shared. finish shared lead how) (Some reply) hub after
  made to reply after is replies shows_after = record {
    replies = λ shared shows. ap Some (replies shared shows) ∙ sym (ap (λ (done : Changed (Option Finished)). done.reply) (same shared shows to is));
    shows = λ shared shows. subst (λ (done : Changed (Option Finished)). Shows done.shared after) (sym (same shared shows to is)) (shows_after shared shows);
  }

  pub committed_turn : (askers : List ℕ) (after : HubView) → resolved_by one how ≡ resolved.Commit askers → Commits (stabilisation_of one) hub after → IsSound hub
      → IsChange (λ shared. finish shared lead how) (Some (finished.Committed (length hub.trail))) hub after
  committed_turn askers after is commits sound =
      made (resolved.Commit one.askers) (finished.Committed (length hub.trail)) after (is ∙ ap resolved.Commit (askers_of how is))
      (λ shared shows. ap (λ items. finished.Committed (length items)) (sym shows.trail))
      (λ shared shows. shows_committed (stabilisation_of one) hub after commits sound shared shows)
    where
      never : (noted : Option ℕ) → failure_of one.askers noted ≡ resolved.Commit askers → ⊥
      never None e = cc
      never (Some lost) e = cc

      askers_of : (how : Outcome) → resolved_by one how ≡ resolved.Commit askers → askers ≡ one.askers
      askers_of (outcome.Ok version) e = cc
      askers_of (outcome.Full need free) e = absurd (never one.noted e)
      askers_of outcome.Worn e = absurd (never one.noted e)
      askers_of outcome.Disk e = absurd (never one.noted e)
      askers_of outcome.Doubt e = cc

  -- what a failure without a noted loss says
  failing : (noted : Option ℕ) (askers : List ℕ) → failure_of one.askers noted ≡ resolved.Fail askers → (noted ≡ None) × (askers ≡ one.askers)
  failing None askers e = (refl, cc)
  failing (Some lost) askers e = cc

  pub failure_is : (askers : List ℕ) (how : Outcome) → resolved_by one how ≡ resolved.Fail askers → (is_failure how ≡ true) × (one.noted ≡ None) × (askers ≡ one.askers)
  failure_is askers (outcome.Ok version) e = cc
  failure_is askers (outcome.Full need free) e = let is = failing one.noted askers e in (refl, is.0, is.1)
  failure_is askers outcome.Worn e = let is = failing one.noted askers e in (refl, is.0, is.1)
  failure_is askers outcome.Disk e = let is = failing one.noted askers e in (refl, is.0, is.1)
  failure_is askers outcome.Doubt e = cc

  pub failed_turn : (askers : List ℕ) (after : HubView) → resolved_by one how ≡ resolved.Fail askers → Ends (stabilisation_of one) (kept.Failed how) hub after → IsSound hub
      → IsChange (λ shared. finish shared lead how) (Some (finished.Failed how)) hub after
  failed_turn askers after is ends sound =
      made (resolved.Fail one.askers) (finished.Failed how) after (is ∙ ap resolved.Fail (failure_is askers how is).2)
      (λ shared shows. refl)
      (λ shared shows. shows_ended (stabilisation_of one) (kept.Failed how) hub after ends sound shared shows)

  undoing : (noted : Option ℕ) (lost : ℕ) → failure_of one.askers noted ≡ resolved.Undo lost → noted ≡ Some lost
  undoing None lost e = cc
  undoing (Some other) lost e = cc

  -- the loss was noted
  pub noted_is : (lost : ℕ) (how : Outcome) → resolved_by one how ≡ resolved.Undo lost → one.noted ≡ Some lost
  noted_is lost (outcome.Ok version) e = cc
  noted_is lost (outcome.Full need free) e = undoing one.noted lost e
  noted_is lost outcome.Worn e = undoing one.noted lost e
  noted_is lost outcome.Disk e = undoing one.noted lost e
  noted_is lost outcome.Doubt e = cc

  pub undone_turn : (lost : ℕ) (after : HubView) → resolved_by one how ≡ resolved.Undo lost → RollsBack lost hub after → IsSound hub
      → IsChange (λ shared. finish shared lead how) (Some (finished.Undone (length hub.trail))) hub after
  undone_turn lost after is rolls sound =
      made (resolved.Undo lost) (finished.Undone (length hub.trail)) after is
      (λ shared shows. ap (λ items. finished.Undone (length items)) (sym shows.trail))
      (λ shared shows. shows_rolled_back lost hub after rolls sound shared shows)

  -- the one in doubt
  pub doubtful_is : (doubtful : Stab) (how : Outcome) → resolved_by one how ≡ resolved.Doubt doubtful → doubtful ≡ record one { phase = phase.Doubt }
  doubtful_is doubtful (outcome.Ok version) e = cc
  doubtful_is doubtful (outcome.Full need free) e = absurd (never one.noted e)
    where
      never : (noted : Option ℕ) → failure_of one.askers noted ≡ resolved.Doubt doubtful → ⊥
      never None e = cc
      never (Some lost) e = cc
  doubtful_is doubtful outcome.Worn e = absurd (never one.noted e)
    where
      never : (noted : Option ℕ) → failure_of one.askers noted ≡ resolved.Doubt doubtful → ⊥
      never None e = cc
      never (Some lost) e = cc
  doubtful_is doubtful outcome.Disk e = absurd (never one.noted e)
    where
      never : (noted : Option ℕ) → failure_of one.askers noted ≡ resolved.Doubt doubtful → ⊥
      never None e = cc
      never (Some lost) e = cc
  doubtful_is doubtful outcome.Doubt e = cc

  pub comes_into_doubt : (doubtful : Stab) → resolved_by one how ≡ resolved.Doubt doubtful → IsHeldBy hub lead → ComesIntoDoubt hub (stabilisation_of doubtful)
  comes_into_doubt doubtful is held = (stabilisation_of one, is_there, is_sealed held, ap stabilisation_of (doubtful_is doubtful how is))

  pub doubted_turn : (doubtful : Stab) (after : HubView) → resolved_by one how ≡ resolved.Doubt doubtful → after ≡ in_doubt doubtful.lead hub
      → IsChange (λ shared. finish shared lead how) (Some finished.Doubt) hub after
  doubted_turn doubtful after is after_is =
      let same_one = doubtful_is doubtful how is in
      made (resolved.Doubt (record one { phase = phase.Doubt })) finished.Doubt after (is ∙ ap resolved.Doubt same_one)
      (λ shared shows. refl)
      (λ shared shows.
      subst (λ (h : HubView). Shows (carried_out shared one how (resolved.Doubt (record one { phase = phase.Doubt }))).shared h)
      (sym (after_is ∙ ap (λ (s : Stab). in_doubt s.lead hub) same_one)) (shows_doubt hub one.lead shared shows))

  -- a noted loss is of a client of the association that has not fallen, and the mark of the stabilisation is due
  module _ (sound : IsSound hub) (lost : ℕ) (noted : one.noted ≡ Some lost) where
    in_machine : Contains (stands_for hub sound.stands).shared.stabilisations (stabilisation_of one)
    in_machine = subst (λ (all : List Stabilisation). Contains all (stabilisation_of one)) (sym (stands_for hub sound.stands).shows.stabilisations) is_there

    pub noted_up : fallen_in hub lost ≡ None
    noted_up =
        let stands = stands_for hub sound.stands in
        fallen_none (fallen_in hub lost) (sym (fall_shown stands.shared hub stands.shows lost) ∙ stands.good.unfallen (stabilisation_of one) lost in_machine noted)
      where
        fallen_none : (fallen : Option FallenView) → option_map (fallen_of hub.trail) fallen ≡ None → fallen ≡ None
        fallen_none None is = refl
        fallen_none (Some fallen) is = cc

    pub noted_due : is_mark_due lost hub ≡ true
    noted_due =
        let stands = stands_for hub sound.stands in
        let member : has_member lost (association_of hub.trail one.lead) ≡ true =
        ap (λ items. has_member lost (association_of items one.lead)) (sym stands.shows.trail) ∙ stands.good.noted (stabilisation_of one) lost in_machine noted in
        let leads : has_member one.lead (association_of hub.trail lost) ≡ true =
        ap (has_member one.lead) (association_of_a_member hub.trail one.lead lost member)
        ∙ association_holds_its_client hub.trail one.lead (stands.good.frozen.leads (stabilisation_of one) in_machine) in
        or_right (is_live hub lost) (list_any (λ (x : Stabilisation). has_member x.lead (association_of hub.trail lost)) hub.stabilisations)
        (any_of (λ (x : Stabilisation). has_member x.lead (association_of hub.trail lost)) hub.stabilisations (stabilisation_of one) is_there leads)

-- where a write-out failed the frames are as right as before
pub frames_ended : (base : List (List ℕ)) (one : Stabilisation) (outcome : Kept) (hub after : HubView) → Ends one outcome hub after → FramesAreRight base hub → FramesAreRight base after
frames_ended base one outcome hub after ends right =
    subst (λ (pages : PagesView). ServerIsRight (is_modified after.trail) (live_value base after) (stored_value base after) pages) (sym ends.pages)
    (subst (λ (items : List Item). ServerIsRight (is_modified items) (λ page word. value_of base (live_entries items) page word) (λ page word. value_of base (stable_entries items) page word) hub.pages)
    (sym ends.trail) right)

-- what a finish keeps
module _ (hub after : HubView) (lead : ℕ) (how : Outcome) (result : Option Finished) (held : IsHeldBy hub lead) (turn : IsChange (λ shared. finish shared lead how) result hub after) where
  held_in : (shared : Shared) → Shows shared hub → IsHeld shared lead
  held_in shared shows one inside = held one (subst (λ (all : List Stabilisation). Contains all one) shows.stabilisations inside)

  pub finish_keeps : (who : ℕ) → KeepsClient who hub after
  finish_keeps who =
      going (SharedKeepsClient who) hub after
      (λ shared shows good.
      let kept = finish_kept shared lead how good (held_in shared shows) in
      record { next = (finish shared lead how).shared; shows = turn.shows shared shows; good = kept.good; comes = kept.apart who })

  pub finish_leaves : OtherLeadsStand lead hub after
  finish_leaves =
      going (λ shared next. OtherLeadsStandStill shared lead next) hub after
      (λ shared shows good.
      record {
        next = (finish shared lead how).shared;
        shows = turn.shows shared shows;
        good = (finish_kept shared lead how good (held_in shared shows)).good;
        comes = finish_others shared lead how good (held_in shared shows);
      })

-- A settle.

-- the stabilisation in doubt that the server found, as the hub shows it
pub found_doubtful : (hub : HubView) (each : List Stab) (one : Stab) → stabilisations_of each ≡ hub.stabilisations → first_in is_doubtful each ≡ Some one
    → find (λ (x : Stabilisation). machine_doubts x.phase) hub.stabilisations ≡ Some (stabilisation_of one)
found_doubtful hub each one same first =
    ap (find (λ (x : Stabilisation). machine_doubts x.phase)) (sym same) ∙ sym (found_in_doubt each) ∙ ap (option_map stabilisation_of) first

pub doubtful_seen : (view hub : HubView) (each : List Stab) (one : Stab) (result : Option Stab) → view ≡ hub → stabilisations_of each ≡ view.stabilisations
    → result ≡ first_in is_doubtful each → result ≡ Some one → find (λ (x : Stabilisation). machine_doubts x.phase) hub.stabilisations ≡ Some (stabilisation_of one)
doubtful_seen view hub each one result seen same is some =
    subst (λ (h : HubView). find (λ (x : Stabilisation). machine_doubts x.phase) h.stabilisations ≡ Some (stabilisation_of one)) seen (found_doubtful view each one same (sym is ∙ some))

pub none_doubtful : (hub : HubView) (each : List Stab) → stabilisations_of each ≡ hub.stabilisations → first_in is_doubtful each ≡ None
    → find (λ (x : Stabilisation). machine_doubts x.phase) hub.stabilisations ≡ None
none_doubtful hub each same first =
    ap (find (λ (x : Stabilisation). machine_doubts x.phase)) (sym same) ∙ sym (found_in_doubt each) ∙ ap (option_map stabilisation_of) first

pub nothing_settled : (hub : HubView) → find (λ (x : Stabilisation). machine_doubts x.phase) hub.stabilisations ≡ None → IsChange settled None hub hub
nothing_settled hub none = record {
  replies = λ shared shows. sym (ap (λ (found : Option Stabilisation). (settled_by shared found).reply) (same shared shows));
  shows = λ shared shows. subst (λ (found : Option Stabilisation). Shows (settled_by shared found).shared hub) (sym (same shared shows)) shows;
}
  where
    same : (shared : Shared) → Shows shared hub → find (λ (x : Stabilisation). machine_doubts x.phase) shared.stabilisations ≡ None
    same shared shows = ap (find (λ (x : Stabilisation). machine_doubts x.phase)) shows.stabilisations ∙ none

module _ (hub : HubView) (one : Stabilisation) (found : find (λ (x : Stabilisation). machine_doubts x.phase) hub.stabilisations ≡ Some one) where
  pub doubtful_there : Contains hub.stabilisations one
  doubtful_there = (find_found (λ (x : Stabilisation). machine_doubts x.phase) hub.stabilisations one found).0

  pub doubtful_held : is_gathering one.phase ≡ false
  doubtful_held = by one.phase (find_found (λ (x : Stabilisation). machine_doubts x.phase) hub.stabilisations one found).1
    where
      by : (how : MachinePhase) → machine_doubts how ≡ true → is_gathering how ≡ false
      by Gathering is = cc
      by Sealed is = refl
      by Doubtful is = refl

  pub settled_turn : (after : HubView) → Commits one hub after → IsSound hub → IsChange settled (Some (length hub.trail)) hub after
  settled_turn after commits sound = record {
    replies = λ shared shows.
        ap (λ items. Some (length items)) (sym shows.trail) ∙ sym (ap (λ (o : Option Stabilisation). (settled_by shared o).reply) (same shared shows));
    shows = λ shared shows.
        subst (λ (o : Option Stabilisation). Shows (settled_by shared o).shared after) (sym (same shared shows)) (shows_committed one hub after commits sound shared shows);
  }
    where
      same : (shared : Shared) → Shows shared hub → find (λ (x : Stabilisation). machine_doubts x.phase) shared.stabilisations ≡ Some one
      same shared shows = ap (find (λ (x : Stabilisation). machine_doubts x.phase)) shows.stabilisations ∙ found

-- what a settle keeps
pub settle_keeps : (hub after : HubView) (result : Option ℕ) → IsChange settled result hub after → (who : ℕ) → KeepsClient who hub after
settle_keeps hub after result turn who =
    going (SharedKeepsClient who) hub after
    (λ shared shows good.
    let kept = settled_kept shared good in
    record { next = (settled shared).shared; shows = turn.shows shared shows; good = kept.good; comes = kept.apart who })

pub settle_leaves : (hub after : HubView) (result : Option ℕ) → IsChange settled result hub after → (one : Stabilisation) → doubtful_in hub ≡ Some one
    → OtherLeadsStand one.lead hub after
settle_leaves hub after result turn one found =
    going (λ shared next. OtherLeadsStandStill shared one.lead next) hub after
    (λ shared shows good.
    record {
      next = (settled shared).shared;
      shows = turn.shows shared shows;
      good = (settled_kept shared good).good;
      comes = settled_others shared good one (ap (find (λ (x : Stabilisation). machine_doubts x.phase)) shows.stabilisations ∙ found);
    })
