use Rattle.std.proofs.Common.{◌≡◌, ℕ, List, [], ◌∷◌, ◌++◌, Bool, true, cond, not, ◌==◌, map, filter, Contains, refl, sym, ap, ◌∙◌, subst, ⊎_elim, true≢false}
use Rattle.std.specs.Prelude.{Option, None, Some, is_some, unwrap_or}
use Rattle.std.specs.Option.{option_or}
use Rattle.std.proofs.lemmas.Bool.{cond_both, not-true, false_from_ne_true, eq-eqb, eqb-true}
use Rattle.casper_words.specs.Crew.{has_member}
use Rattle.casper_words.specs.declared.call.Call.{Call}
use Rattle.casper_words.specs.declared.page.Want.{Want}
use Rattle.casper_trail.specs.declared.item.Item.{Item}
use Rattle.casper_trail.specs.declared.mark.Mark.TheVariants.{Commit, Rollback}
use Rattle.casper_trail.specs.Parts.{as_items}
use Rattle.casper_trail.specs.Calls.{entries_by}
use Rattle.casper_trail.specs.Association.{association_of}
use Rattle.casper_trail.proofs.Growth.{association_grows, others_after_mark}
use Rattle.casper_trail.proofs.Rounds.{association_holds_its_client}
use Rattle.casper_model.specs.declared.outcome.Kept.{Kept}
use Rattle.casper_model.specs.declared.reply.Reply.{Reply}
use Rattle.casper_model.specs.declared.reply.Loss.{Loss}
use Rattle.casper_model.specs.Client.{Fallen}
use Rattle.casper_model.specs.Own.{Own}
use Rattle.casper_model.specs.Both.{Both, Changed}
use Rattle.casper_model.specs.Growth.{AddsOwn}
use Rattle.casper_model.specs.Stabilisation.{Stabilisation, is_gathering, without, handed_in_by, with_noted}
use Rattle.casper_model.specs.Shared.{Shared, fallen_at}
use Rattle.casper_model.specs.Frozen.{is_member, stabilisation_of}
use Rattle.casper_model.specs.Opening.{handed_in_to}
use Rattle.casper_model.specs.Acquire.{answered, touches_by}
use Rattle.casper_model.specs.Stabilise.{stabilised_in, frozen_by, with_asker}
use Rattle.casper_model.specs.Leave.{absent}
use Rattle.casper_model.specs.Loss.{lose, lose_by, lost_in, rolled_back}
use Rattle.casper_model.specs.Finish.{ended, committed}
use Rattle.casper_model.proofs.Entries.{contains_append, contains_cases}
use Rattle.casper_turns.specs.Frozen.{AreFrozen}
use Rattle.casper_turns.specs.Noted.{NotedAreMembers}
use Rattle.casper_turns.proofs.Lists.{nothing_in, find_found, contains_map, contains_filter}
use Rattle.casper_turns.proofs.ApartLeads.{one_with_member}

-- each noted loss was noted before, in a stabilisation of the same lead
abbrev pub NotesNoMore : Shared → Shared → Type 0
NotesNoMore shared after =
    (one : Stabilisation) (lost : ℕ) → Contains after.stabilisations one → one.noted ≡ Some lost
    → (before : Stabilisation) × Contains shared.stabilisations before × (before.lead ≡ one.lead) × (before.noted ≡ Some lost)

pub notes_same : (shared after : Shared) → after.stabilisations ≡ shared.stabilisations → NotesNoMore shared after
notes_same shared after same one lost inside noted = (one, subst (λ list. Contains list one) same inside, refl, noted)

pub notes_both : (shared middle after : Shared) → NotesNoMore shared middle → NotesNoMore middle after → NotesNoMore shared after
notes_both shared middle after first second one lost inside noted =
    let mid = second one lost inside noted in
    let early = first mid.0 lost mid.1 mid.3 in
    (early.0, early.1, early.2 ∙ mid.2, early.3)

pub notes_mapped : (shared after : Shared) (change : Stabilisation → Stabilisation) → after.stabilisations ≡ map change shared.stabilisations
    → ((one : Stabilisation) → (change one).lead ≡ one.lead) → ((one : Stabilisation) → (change one).noted ≡ one.noted) → NotesNoMore shared after
notes_mapped shared after change changed leads notes one lost inside noted =
    let before = contains_map change shared.stabilisations one (subst (λ list. Contains list one) changed inside) in (
      before.0,
      before.1,
      sym (leads before.0) ∙ ap (λ (x : Stabilisation). x.lead) before.2,
      sym (notes before.0) ∙ ap (λ (x : Stabilisation). x.noted) before.2 ∙ noted,
    )

-- the stabilisation of a lead changed in what is neither lead nor note
pub notes_by_lead : (shared : Shared) (lead : ℕ) (change : Stabilisation → Stabilisation) → ((one : Stabilisation) → (change one).lead ≡ one.lead)
    → ((one : Stabilisation) → (change one).noted ≡ one.noted)
    → NotesNoMore shared (record shared { stabilisations = map (λ one. cond (one.lead == lead) (change one) one) shared.stabilisations })
notes_by_lead shared lead change leads notes =
    notes_mapped shared (record shared { stabilisations = map (λ one. cond (one.lead == lead) (change one) one) shared.stabilisations })
    (λ one. cond (one.lead == lead) (change one) one) refl
    (λ one. cond_both (one.lead == lead) (change one) one (λ (x : Stabilisation). x.lead ≡ one.lead) (λ is. leads one) (λ other. refl))
    (λ one. cond_both (one.lead == lead) (change one) one (λ (x : Stabilisation). x.noted ≡ one.noted) (λ is. notes one) (λ other. refl))

-- a client's turn keeps the members of each association
grows_by_own : (who : ℕ) (pending : List Call) (before after : List Item) → AddsOwn who pending before after → (lead member : ℕ)
    → has_member member (association_of before lead) ≡ true → has_member member (association_of after lead) ≡ true
grows_by_own who pending before after AddsOwn.nothing lead member is = is
grows_by_own who pending before after AddsOwn.calls lead member is = association_grows before (entries_by who pending) lead member is
grows_by_own who pending before after (AddsOwn.touches wants) lead member is =
    association_grows (before ++ as_items (entries_by who pending)) (touches_by who wants) lead member (association_grows before (entries_by who pending) lead member is)

-- and notes no loss
pub members_by_own : (shared after : Shared) (own : Own) → NotesNoMore shared after → AddsOwn own.who own.pending shared.trail after.trail → NotedAreMembers shared
    → NotedAreMembers after
members_by_own shared after own notes adds members one lost inside noted =
    let early = notes one lost inside noted in
    grows_by_own own.who own.pending shared.trail after.trail adds one.lead lost
    (subst (λ lead. has_member lost (association_of shared.trail lead) ≡ true) early.2 (members early.0 lost early.1 early.3))

pub notes_handed_in : (shared : Shared) (both : Both) (gathering : Option Stabilisation) → both.shared.stabilisations ≡ shared.stabilisations
    → NotesNoMore shared (handed_in_to both gathering).shared
notes_handed_in shared both None same = notes_same shared both.shared same
notes_handed_in shared both (Some one) same =
    notes_both shared both.shared (handed_in_to both (Some one)).shared (notes_same shared both.shared same)
    (notes_mapped both.shared (handed_in_to both (Some one)).shared (λ other. cond (other.lead == one.lead) (handed_in_by both.own.who other) other) refl
    (λ other. cond_both (other.lead == one.lead) (handed_in_by both.own.who other) other (λ (x : Stabilisation). x.lead ≡ other.lead) (λ is. refl) (λ is. refl))
    (λ other. cond_both (other.lead == one.lead) (handed_in_by both.own.who other) other (λ (x : Stabilisation). x.noted ≡ other.noted) (λ is. refl) (λ is. refl)))

pub notes_answered : (both : Both) (given : List ℕ) (wants missing : List Want) (refusal : Option Reply)
    → NotesNoMore both.shared (answered both given wants missing refusal).shared
notes_answered both given wants missing None = notes_same both.shared (answered both given wants missing None).shared refl
notes_answered both given wants missing (Some reply) = notes_same both.shared (answered both given wants missing (Some reply)).shared refl

-- a stabilisation begins with no note
notes_pushed : (shared after : Shared) (one : Stabilisation) → after.stabilisations ≡ shared.stabilisations ++ one ∷ [] → one.noted ≡ None → NotesNoMore shared after
notes_pushed shared after one pushed none other lost inside noted =
    ⊎_elim (λ old. (other, old, refl, noted))
    (λ new.
    ⊎_elim (λ (same : one ≡ other). absurd (true≢false (sym (ap is_some (ap (λ (x : Stabilisation). x.noted) same ∙ noted)) ∙ ap is_some none)))
    (λ later. absurd (nothing_in other later)) (contains_cases one [] other new))
    (contains_append shared.stabilisations (one ∷ []) other (subst (λ list. Contains list other) pushed inside))

pub notes_stabilised_in : (both : Both) (one : Option Stabilisation) → NotesNoMore both.shared (stabilised_in both one).shared
notes_stabilised_in both None = notes_pushed both.shared (frozen_by both).shared _ refl refl
notes_stabilised_in both (Some one) = notes_by_lead both.shared one.lead (with_asker both.own.who) (λ x. refl) (λ x. refl)

pub notes_absent : (both : Both) → NotesNoMore both.shared (absent both).shared
notes_absent both =
    notes_mapped both.shared (absent both).shared (λ one. record one { askers = without both.own.who one.askers }) refl (λ one. refl) (λ one. refl)

-- where the trail and the notes stay
pub members_same : (shared after : Shared) → after.trail ≡ shared.trail → NotesNoMore shared after → NotedAreMembers shared → NotedAreMembers after
members_same shared after same notes members one lost inside noted =
    let early = notes one lost inside noted in
    ap (λ trail. has_member lost (association_of trail one.lead)) same
    ∙ subst (λ lead. has_member lost (association_of shared.trail lead) ≡ true) early.2 (members early.0 lost early.1 early.3)

-- some stabilisations are left, whose associations stay
members_left : (shared after : Shared) (test : Stabilisation → Bool) → after.stabilisations ≡ filter test shared.stabilisations
    → ((one : Stabilisation) → Contains shared.stabilisations one → test one ≡ true → association_of after.trail one.lead ≡ association_of shared.trail one.lead)
    → NotedAreMembers shared → NotedAreMembers after
members_left shared after test left stay members one lost inside noted =
    let was = contains_filter test shared.stabilisations one (subst (λ list. Contains list one) left inside) in
    ap (has_member lost) (stay one was.0 was.1) ∙ members one lost was.0 noted

pub rolled_back_members : (shared : Shared) (lost : ℕ) → NotedAreMembers shared → NotedAreMembers (rolled_back shared lost)
rolled_back_members shared lost =
    let members = association_of shared.trail lost in
    members_left shared (rolled_back shared lost) (λ one. not (has_member one.lead members)) refl
    (λ one inside out. others_after_mark shared.trail (Rollback lost members) one.lead refl (not-true (has_member one.lead members) out))

pub ended_members : (shared : Shared) (one : Stabilisation) (kept : Kept) → NotedAreMembers shared → NotedAreMembers (ended shared one kept)
ended_members shared one kept = members_left shared (ended shared one kept) (λ other. not (other.lead == one.lead)) refl (λ other inside further. refl)

pub committed_members : (shared : Shared) (one : Stabilisation) → Contains shared.stabilisations one → AreFrozen shared → NotedAreMembers shared
    → NotedAreMembers (committed shared one).shared
committed_members shared one inside frozen =
    members_left shared (committed shared one).shared (λ other. not (other.lead == one.lead)) refl
    (λ other also further.
    others_after_mark shared.trail (Commit one.lead (association_of shared.trail one.lead)) other.lead refl
    (false_from_ne_true (has_member other.lead (association_of shared.trail one.lead))
    (λ found.
    let same : other ≡ one =
    one_with_member shared.trail shared.stabilisations other one other.lead frozen.apart also inside
    (association_holds_its_client shared.trail other.lead (frozen.leads other also)) found in
    true≢false (sym (eq-eqb other.lead one.lead (ap (λ (x : Stabilisation). x.lead) same)) ∙ not-true (other.lead == one.lead) further))))

-- the loss of a member is noted
noted_members : (shared : Shared) (who : ℕ) (one : Stabilisation) → stabilisation_of shared who ≡ Some one → NotedAreMembers shared
    → NotedAreMembers (record shared { stabilisations = map (λ other. cond (other.lead == one.lead) (with_noted who other) other) shared.stabilisations })
noted_members shared who one e members other lost inside noted =
    let before = contains_map (λ (x : Stabilisation). cond (x.lead == one.lead) (with_noted who x) x) shared.stabilisations other inside in
    let found = find_found (is_member shared who) shared.stabilisations one e in
    cond_both (before.0.lead == one.lead) (with_noted who before.0) before.0
    (λ (x : Stabilisation). x ≡ other → has_member lost (association_of shared.trail other.lead) ≡ true)
    (λ same is.
    let lead : before.0.lead ≡ other.lead = ap (λ (x : Stabilisation). x.lead) is in
    subst (λ number. has_member lost (association_of shared.trail number) ≡ true) lead
    (by_note before.0.noted lost (ap (λ (x : Stabilisation). x.noted) is ∙ noted) (λ number. has_member number (association_of shared.trail before.0.lead) ≡ true)
    (λ early. members before.0 lost before.1 early)
    (subst (λ number. has_member who (association_of shared.trail number) ≡ true) (sym (eqb-true before.0.lead one.lead same)) found.1)))
    (λ apart is.
    subst (λ number. has_member lost (association_of shared.trail number) ≡ true) (ap (λ (x : Stabilisation). x.lead) is)
    (members before.0 lost before.1 (ap (λ (x : Stabilisation). x.noted) is ∙ noted)))
    before.2
  where
    -- the first note stays, and otherwise it is of this client
    by_note : (note : Option ℕ) (number : ℕ) → option_or note (Some who) ≡ Some number → (P : ℕ → Type 0) → (note ≡ Some number → P number) → P who → P number
    by_note None number is P old new = subst P (ap (λ (one : Option ℕ). unwrap_or one 0) is) new
    by_note (Some first) number is P old new = old is

pub lost_members : (shared : Shared) (who unrecorded : ℕ) (one : Option Stabilisation) → stabilisation_of shared who ≡ one → NotedAreMembers shared
    → NotedAreMembers (lost_in shared who unrecorded one).shared
lost_members shared who unrecorded None e members = rolled_back_members shared who members
lost_members shared who unrecorded (Some one) e members =
    cond_both (is_gathering one.phase) _ _ (λ (done : Changed Loss). NotedAreMembers done.shared) (λ gathering. rolled_back_members shared who members)
    (λ held. noted_members shared who one e members)

lose_by_members : (shared : Shared) (who : ℕ) (fallen : Option Fallen) → NotedAreMembers shared → NotedAreMembers (lose_by shared who fallen).shared
lose_by_members shared who (Some fallen) members = members
lose_by_members shared who None members = lost_members shared who 0 (stabilisation_of shared who) refl members

pub lose_members : (shared : Shared) (who : ℕ) → NotedAreMembers shared → NotedAreMembers (lose shared who).shared
lose_members shared who = lose_by_members shared who (fallen_at shared who)
