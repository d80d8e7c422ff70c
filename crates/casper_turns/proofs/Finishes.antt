use Rattle.std.proofs.Common.{◌≡◌, ◌≢◌, ℕ, [], ◌∷◌, ◌++◌, false, ◌==◌, not, cond, map, filter, length, Contains, refl, sym, ap, ◌∙◌, subst, append-nil}
use Rattle.std.specs.Prelude.{Option, None, Some, option_map}
use Rattle.std.proofs.lemmas.Bool.{cond_both, cond-false, eqb-true, ne_eqb, false_from_ne_true}
use Rattle.casper_words.specs.Crew.{has_member}
use Rattle.casper_trail.specs.declared.item.Item.TheVariants as item
use Rattle.casper_trail.specs.declared.mark.Mark.{Mark}
use Rattle.casper_trail.specs.declared.mark.Mark.TheVariants.{Commit, Rollback}
use Rattle.casper_trail.specs.Association.{association_of}
use Rattle.casper_trail.specs.Fate.{members_of}
use Rattle.casper_trail.specs.Marks.{IsExactMark}
use Rattle.casper_trail.proofs.Growth.{others_after_mark}
use Rattle.casper_trail.proofs.Rounds.{association_holds_its_client, association_of_a_member}
use Rattle.casper_model.specs.declared.outcome.Kept.{Kept}
use Rattle.casper_model.specs.declared.outcome.Kept.TheVariants as kept
use Rattle.casper_model.specs.declared.outcome.Outcome.{Outcome}
use Rattle.casper_model.specs.declared.outcome.Outcome.TheVariants as outcome
use Rattle.casper_model.specs.Client.{Client}
use Rattle.casper_model.specs.Finish.{finish, finished_by, finished_as, failed, ended, committed, settled, settled_by, stabilisation_led_by, doubtful_of}
use Rattle.casper_model.specs.Loss.{rolled_back}
use Rattle.casper_model.specs.Shared.{Shared, client_at}
use Rattle.casper_model.specs.Stabilisation.{Stabilisation, Doubtful, is_gathering, is_doubtful}
use Rattle.casper_model.proofs.FallRuns.{marked_finish, marked_settled}
use Rattle.casper_model.proofs.LossRights.{spares_finish, spares_settled}
use Rattle.casper_model.proofs.MarkSteps.{marks_finish, marks_settled}
use Rattle.casper_model.proofs.Places.{client_each}
use Rattle.casper_model.proofs.RoomSteps.{finish_within, settled_within}
use Rattle.casper_turns.specs.Frozen.{AreFrozen}
use Rattle.casper_turns.specs.Good.{IsGoodShared}
use Rattle.casper_turns.specs.Kept.{KeptForAll, OtherLeadsStandStill, IsHeld}
use Rattle.casper_turns.proofs.ApartLeads.{one_with_member}
use Rattle.casper_turns.proofs.FinishFrozen.{doubting, doubt_frozen, ended_frozen, committed_frozen}
use Rattle.casper_turns.proofs.ForAll.{ClientStays, client_itself, kept_for_all}
use Rattle.casper_turns.proofs.LeaveFrozen.{rolled_back_frozen}
use Rattle.casper_turns.proofs.Lists.{contains_filter, contains_map, contains_filtered, contains_mapped, find_found}
use Rattle.casper_turns.proofs.Losses.{client_rolled_back}
use Rattle.casper_turns.proofs.NotedMembers.{notes_by_lead, members_same, rolled_back_members, ended_members, committed_members}
use Rattle.casper_turns.proofs.NotedUp.{up_still, rolled_back_up, ended_up, committed_up}
use Rattle.casper_turns.proofs.MarkChanges.{records_nothing, ended_records, committed_records, ends_its_stabilisation, relabelled_records}
use Rattle.casper_turns.specs.MarkRoom.{RecordsNoMore}
use Rattle.casper_turns.specs.Noted.{NotedAreMembers, NotedAreUp}
use Rattle.casper_turns.proofs.StillLeft.{undecided}

-- a stabilisation that ends leaves each client, but for its kept outcome
client_ended : (shared : Shared) (one : Stabilisation) (outcome : Kept) (who : ℕ) → ClientStays shared.trail (client_at shared who) (client_at (ended shared one outcome) who)
client_ended shared one outcome who =
    subst (ClientStays shared.trail (client_at shared who)) (sym (client_each change shared who)) (by_place (client_at shared who))
  where
    change : ℕ → Client → Client
    change number client = cond (has_member number one.askers) (record client { kept = Some outcome }) client

    by_place : (place : Option Client) → ClientStays shared.trail place (option_map (change who) place)
    by_place None = client_itself shared.trail None
    by_place (Some client) =
        cond_both (has_member who one.askers) (record client { kept = Some outcome }) client (λ (after : Client). ClientStays shared.trail (Some client) (Some after))
        (λ asks. let is = client_itself shared.trail (Some client) in
        record { live = is.live; cap = is.cap; lost = is.lost; falls = is.falls; asks = is.asks; rights = is.rights })
        (λ none. client_itself shared.trail (Some client))

-- one way in which a stabilisation may end
record Ends (shared after : Shared) (lead : ℕ) : Type 0 where
  frozen : AreFrozen after
  clients : (who : ℕ) → ClientStays shared.trail (client_at shared who) (client_at after who)
  limit : after.limit ≡ shared.limit
  pages : after.pages ≡ shared.pages
  others : OtherLeadsStandStill shared lead after
  noted : NotedAreMembers after
  unfallen : NotedAreUp after
  records : RecordsNoMore shared after

-- who leads another is not in the association of the one
module _ (shared : Shared) (one : Stabilisation) (good : IsGoodShared shared) (inside : Contains shared.stabilisations one) where
  outside : (other : Stabilisation) → Contains shared.stabilisations other → other.lead ≢ one.lead → has_member other.lead (association_of shared.trail one.lead) ≡ false
  outside other also apart =
      false_from_ne_true (has_member other.lead (association_of shared.trail one.lead))
      (λ found.
      apart (ap (λ (x : Stabilisation). x.lead)
      (one_with_member shared.trail shared.stabilisations other one other.lead good.frozen.apart also inside
      (association_holds_its_client shared.trail other.lead (good.frozen.leads other also)) found)))

  -- another one that is there still, after a mark of the association of the one
  behind_mark : (after : Shared) (mark : Mark) → IsExactMark shared.trail mark → members_of mark ≡ association_of shared.trail one.lead
      → after.trail ≡ shared.trail ++ item.Mark mark ∷ []
      → ((other : Stabilisation) → Contains shared.stabilisations other → has_member other.lead (members_of mark) ≡ false → other.lead ≢ one.lead
      → Contains after.stabilisations other)
      → ((other : Stabilisation) → Contains after.stabilisations other → Contains shared.stabilisations other)
      → OtherLeadsStandStill shared one.lead after
  behind_mark after mark exact named grown there was = record {
    more = item.Mark mark ∷ [];
    trail = grown;
    held = λ other also held apart.
        let out : has_member other.lead (members_of mark) ≡ false = ap (has_member other.lead) named ∙ outside other also apart in
        record {
          same = other;
          there = there other also out apart;
          lead = refl;
          phase = refl;
          members = ap (λ trail. association_of trail other.lead) grown ∙ others_after_mark shared.trail mark other.lead exact out;
          decided = λ who member. undecided shared.trail mark exact other.lead who out member;
          written = refl;
        };
    doubts = λ other now doubtful apart. (other, was other now, refl, doubtful);
  }

  -- and where the trail stays
  behind_nothing : (after : Shared) → after.trail ≡ shared.trail
      → ((other : Stabilisation) → Contains shared.stabilisations other → other.lead ≢ one.lead → Contains after.stabilisations other)
      → ((other : Stabilisation) → Contains after.stabilisations other → other.lead ≢ one.lead → Contains shared.stabilisations other)
      → OtherLeadsStandStill shared one.lead after
  behind_nothing after same there was = record {
    more = [];
    trail = same ∙ sym (append-nil shared.trail);
    held = λ other also held apart. record {
      same = other;
      there = there other also apart;
      lead = refl;
      phase = refl;
      members = ap (λ trail. association_of trail other.lead) same;
      decided = λ who member. refl;
      written = refl;
    };
    doubts = λ other now doubtful apart. (other, was other now apart, refl, doubtful);
  }

  was_by_end : (other : Stabilisation) → Contains (filter (λ (x : Stabilisation). not (x.lead == one.lead)) shared.stabilisations) other → Contains shared.stabilisations other
  was_by_end other now = (contains_filter (λ (x : Stabilisation). not (x.lead == one.lead)) shared.stabilisations other now).0

  left_by_end : (other : Stabilisation) → Contains shared.stabilisations other → other.lead ≢ one.lead
      → Contains (filter (λ (x : Stabilisation). not (x.lead == one.lead)) shared.stabilisations) other
  left_by_end other also apart =
      contains_filtered (λ (x : Stabilisation). not (x.lead == one.lead)) shared.stabilisations other also (ap not (ne_eqb other.lead one.lead apart))

  committed_ends : Ends shared (committed shared one).shared one.lead
  committed_ends = record {
    frozen = committed_frozen shared one inside good.frozen;
    clients = client_ended shared one (kept.Committed (length shared.trail));
    limit = refl;
    pages = refl;
    others =
        behind_mark (committed shared one).shared (Commit one.lead (association_of shared.trail one.lead)) refl refl refl
        (λ other also out apart. left_by_end other also apart) was_by_end;
    noted = committed_members shared one inside good.frozen good.noted;
    unfallen = committed_up shared one good.unfallen;
    records = committed_records shared one inside;
  }

  failed_ends : (cause : Outcome) (noted : Option ℕ) → one.noted ≡ noted → Ends shared (failed shared one cause noted).shared one.lead
  failed_ends cause None e = record {
    frozen = ended_frozen shared one (kept.Failed cause) good.frozen;
    clients = client_ended shared one (kept.Failed cause);
    limit = refl;
    pages = refl;
    others = behind_nothing (ended shared one (kept.Failed cause)) refl left_by_end (λ other now apart. was_by_end other now);
    noted = ended_members shared one (kept.Failed cause) good.noted;
    unfallen = ended_up shared one (kept.Failed cause) good.unfallen;
    records = ended_records shared one (kept.Failed cause);
  }
  failed_ends cause (Some lost) e = record {
    frozen = rolled_back_frozen shared lost good.frozen;
    clients = client_rolled_back shared lost good.marked (good.unfallen one lost inside e);
    limit = refl;
    pages = refl;
    others =
        behind_mark (rolled_back shared lost) (Rollback lost (association_of shared.trail lost)) refl
        (association_of_a_member shared.trail one.lead lost (good.noted one lost inside e)) refl
        (λ other also out apart.
        contains_filtered (λ (x : Stabilisation). not (has_member x.lead (association_of shared.trail lost))) shared.stabilisations other also (ap not out))
        (λ other now. (contains_filter (λ (x : Stabilisation). not (has_member x.lead (association_of shared.trail lost))) shared.stabilisations other now).0);
    noted = rolled_back_members shared lost good.noted;
    unfallen = rolled_back_up shared lost good.frozen good.noted good.unfallen;
    records =
        ends_its_stabilisation shared lost one inside
        (ap (has_member one.lead) (association_of_a_member shared.trail one.lead lost (good.noted one lost inside e))
        ∙ association_holds_its_client shared.trail one.lead (good.frozen.leads one inside));
  }

  doubted_ends : is_gathering one.phase ≡ false → Ends shared (finished_as shared one outcome.Doubt).shared one.lead
  doubted_ends held = record {
    frozen = doubt_frozen shared one inside held good.frozen;
    clients = λ who. client_itself shared.trail (client_at shared who);
    limit = refl;
    pages = refl;
    others =
        behind_nothing (finished_as shared one outcome.Doubt).shared refl
        (λ other also apart.
        subst (Contains (map (doubting one.lead) shared.stabilisations))
        (cond-false (other.lead == one.lead) (record other { phase = Doubtful }) other (ne_eqb other.lead one.lead apart))
        (contains_mapped (doubting one.lead) shared.stabilisations other also))
        (λ other now apart.
        let before = contains_map (doubting one.lead) shared.stabilisations other now in
        cond_both (before.0.lead == one.lead) (record (before.0) { phase = Doubtful }) before.0
        (λ (x : Stabilisation). x ≡ other → Contains shared.stabilisations other)
        (λ same is. absurd (apart (ap (λ (x : Stabilisation). x.lead) (sym is) ∙ eqb-true before.0.lead one.lead same)))
        (λ away is. subst (Contains shared.stabilisations) is before.1) before.2);
    noted =
        members_same shared (finished_as shared one outcome.Doubt).shared refl
        (notes_by_lead shared one.lead (λ other. record other { phase = Doubtful }) (λ x. refl) (λ x. refl)) good.noted;
    unfallen =
        up_still shared (finished_as shared one outcome.Doubt).shared
        (notes_by_lead shared one.lead (λ other. record other { phase = Doubtful }) (λ x. refl) (λ x. refl)) (λ who fallen is. is) good.unfallen;
    records = relabelled_records shared (doubting one.lead);
  }

  finished_ends : (how : Outcome) → is_gathering one.phase ≡ false → Ends shared (finished_as shared one how).shared one.lead
  finished_ends (outcome.Ok version) held = committed_ends
  finished_ends (outcome.Full need free) held = failed_ends (outcome.Full need free) one.noted refl
  finished_ends outcome.Worn held = failed_ends outcome.Worn one.noted refl
  finished_ends outcome.Disk held = failed_ends outcome.Disk one.noted refl
  finished_ends outcome.Doubt held = doubted_ends held

nothing_ends : (shared : Shared) (lead : ℕ) → IsGoodShared shared → Ends shared shared lead
nothing_ends shared lead good = record {
  frozen = good.frozen;
  clients = λ who. client_itself shared.trail (client_at shared who);
  limit = refl;
  pages = refl;
  others = record {
    more = [];
    trail = sym (append-nil shared.trail);
    held = λ other also held apart. record {
      same = other;
      there = also;
      lead = refl;
      phase = refl;
      members = refl;
      decided = λ who member. refl;
      written = refl;
    };
    doubts = λ other now doubtful apart. (other, now, refl, doubtful);
  };
  noted = good.noted;
  unfallen = good.unfallen;
  records = records_nothing shared;
}

-- the finish of a write-out
module _ (shared : Shared) (lead : ℕ) (how : Outcome) (good : IsGoodShared shared) (held : IsHeld shared lead) where
  finish_ends : Ends shared (finish shared lead how).shared lead
  finish_ends = by_found (stabilisation_led_by shared lead) refl
    where
      by_found : (one : Option Stabilisation) → stabilisation_led_by shared lead ≡ one → Ends shared (finished_by shared how one).shared lead
      by_found None e = nothing_ends shared lead good
      by_found (Some one) e =
          let found = find_found (λ (x : Stabilisation). x.lead == lead) shared.stabilisations one e in
          let same : one.lead ≡ lead = eqb-true one.lead lead found.1 in
          subst (Ends shared (finished_as shared one how).shared) same (finished_ends shared one good found.0 how (held one found.0 same))

  pub finish_kept : KeptForAll shared (finish shared lead how).shared
  finish_kept =
      kept_for_all shared (finish shared lead how).shared good
      (record {
        marks = marks_finish shared lead how;
        spares = spares_finish shared lead how;
        clients = finish_ends.clients;
        limit = finish_ends.limit;
        pages = finish_ends.pages;
        marked = marked_finish shared lead how good.marked;
        frozen = finish_ends.frozen;
        noted = finish_ends.noted;
        unfallen = finish_ends.unfallen;
        within = finish_within shared lead how good.within;
      })

  pub finish_records : RecordsNoMore shared (finish shared lead how).shared
  finish_records = finish_ends.records

  pub finish_others : OtherLeadsStandStill shared lead (finish shared lead how).shared
  finish_others = finish_ends.others

-- a settle
module _ (shared : Shared) (good : IsGoodShared shared) where
  settled_ends : (one : Stabilisation) → doubtful_of shared ≡ Some one → Ends shared (committed shared one).shared one.lead
  settled_ends one e = committed_ends shared one good (find_found (λ (x : Stabilisation). is_doubtful x.phase) shared.stabilisations one e).0

  -- what a settle leaves
  settles : (one : Option Stabilisation) → doubtful_of shared ≡ one → (lead : ℕ) × Ends shared (settled_by shared one).shared lead
  settles None e = (0, nothing_ends shared 0 good)
  settles (Some one) e = (one.lead, settled_ends one e)

  pub settled_kept : KeptForAll shared (settled shared).shared
  settled_kept =
      let done = (settles (doubtful_of shared) refl).1 in
      kept_for_all shared (settled shared).shared good
      (record {
        marks = marks_settled shared;
        spares = spares_settled shared;
        clients = done.clients;
        limit = done.limit;
        pages = done.pages;
        marked = marked_settled shared good.marked;
        frozen = done.frozen;
        noted = done.noted;
        unfallen = done.unfallen;
        within = settled_within shared good.within;
      })

  pub settled_records : RecordsNoMore shared (settled shared).shared
  settled_records = (settles (doubtful_of shared) refl).1.records

  pub settled_others : (one : Stabilisation) → doubtful_of shared ≡ Some one → OtherLeadsStandStill shared one.lead (settled shared).shared
  settled_others one e =
      subst (λ found. OtherLeadsStandStill shared one.lead (settled_by shared found).shared) (sym e) (settled_ends one e).others
