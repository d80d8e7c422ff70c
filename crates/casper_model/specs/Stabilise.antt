use Rattle.std.specs.Prelude.{ℕ, List, [], ◌∷◌, ◌++◌, Bool, ◌&&◌, cond, length, Option, None, Some}
use Rattle.std.specs.List.{list_any}
use Rattle.casper_words.specs.Crew.{crew_of, has_member}
use Rattle.casper_trail.specs.Association.{association_of}
use Rattle.casper_model.specs.declared.outcome.Kept.{Kept}
use Rattle.casper_model.specs.declared.outcome.Kept.TheVariants as kept
use Rattle.casper_model.specs.declared.reply.StabReply.{StabReply}
use Rattle.casper_model.specs.declared.reply.StabReply.TheVariants as reply
use Rattle.casper_model.specs.Held.{is_to_write}
use Rattle.casper_model.specs.Client.{Fallen}
use Rattle.casper_model.specs.Stabilisation.{Stabilisation, Phase, Gathering, Sealed, Doubtful, phase_awaiting, is_empty}
use Rattle.casper_model.specs.Shared.{Shared, client_at, of_client, rights_at, fallen_at, change_stabilisation}
use Rattle.casper_model.specs.Own.{Own}
use Rattle.casper_model.specs.Both.{Both, Turned, turned}
use Rattle.casper_model.specs.Frozen.{stabilisation_of, pages_modified_by}
use Rattle.casper_model.specs.Opening.{told_of_fall, opened, handed_in}

-- the outcome that is kept for a client, if there is one
abbrev pub kept_at : Shared → ℕ → Option Kept
kept_at shared who = of_client None (λ client. client.kept) (client_at shared who)

-- a kept outcome as a reply
abbrev pub reply_of_kept : Kept → StabReply
reply_of_kept (kept.Committed mark) = reply.Committed mark
reply_of_kept (kept.Failed cause) = reply.Failed cause

-- how far the stabilisation is that a client already belongs to, as a reply
abbrev pub reply_in_phase : Stabilisation → Phase → StabReply
reply_in_phase one Gathering = reply.Gathering one.awaited
reply_in_phase one Sealed = reply.Doing one.lead
reply_in_phase one Doubtful = reply.Doubtful one.lead

-- the client waits for the outcome
abbrev pub with_asker : ℕ → Stabilisation → Stabilisation
with_asker who one = record one { askers = crew_of (λ other. has_member other (who ∷ one.askers)) }

-- whether a client holds a page for writing
abbrev pub has_write_right : Shared → ℕ → Bool
has_write_right shared who = list_any (λ held. is_to_write held.right) (rights_at shared who)

-- the members that hold a page for writing
abbrev pub writers_among : Shared → List ℕ → List ℕ
writers_among shared members = crew_of (λ member. has_member member members && has_write_right shared member)

-- the reply as an association with this many modified pages is frozen
abbrev pub reply_awaiting : List ℕ → ℕ → StabReply
reply_awaiting awaited pages = cond (is_empty awaited) (reply.Sealed pages) (reply.Gathering awaited)

-- the client hands in its pages, and its association is frozen with it as the lead
abbrev pub frozen_by : Both → Turned StabReply
frozen_by both =
    let after = handed_in both in
    let who = after.own.who in
    let members = association_of after.shared.trail who in
    let awaited = writers_among after.shared members in
    let one : Stabilisation = record { lead = who; awaited = awaited; askers = crew_of (λ other. has_member other (who ∷ [])); noted = None; phase = phase_awaiting awaited } in
    turned (reply_awaiting awaited (length (pages_modified_by after.shared.trail members)))
    (record after { shared = record (after.shared) { stabilisations = after.shared.stabilisations ++ one ∷ [] } })

-- after the opening, with no kept outcome: by the stabilisation that the client belongs to
abbrev pub stabilised_in : Both → Option Stabilisation → Turned StabReply
stabilised_in both None = frozen_by both
stabilised_in both (Some one) =
    turned (reply_in_phase one one.phase) (record both { shared = change_stabilisation one.lead (with_asker both.own.who) both.shared })

-- after the opening, by the outcome that was kept
abbrev pub stabilised : Both → Option Kept → Turned StabReply
stabilised both None = stabilised_in both (stabilisation_of both.shared both.own.who)
stabilised both (Some outcome) = turned (reply_of_kept outcome) both

abbrev pub stabilised_by : Shared → Own → Option Fallen → Turned StabReply
stabilised_by shared own (Some fallen) = turned (reply.RolledBack fallen.mark fallen.dropped (length own.pending)) (told_of_fall shared own)
stabilised_by shared own None = stabilised (opened shared own) (kept_at shared own.who)

-- a turn in which a client wants its association stable
abbrev pub stabilise : Shared → Own → Turned StabReply
stabilise shared own = stabilised_by shared own (fallen_at shared own.who)
