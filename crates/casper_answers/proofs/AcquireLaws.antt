use Rattle.casper_model.specs.Run.{state_after}
use Rattle.casper_model.specs.State.{start}
use Rattle.casper_answers.specs.AcquireCauses.{EachInDoubtHasItsCause, EachFrozenHasItsCause, EachPendingHasItsCause, EachTrailFullHasItsCause, EachDiskHasItsCause, EachIsGrantedWhereNothingHinders, EachFreeAcquireIsGranted, EachGrantIsOfTheFree}
use Rattle.casper_answers.proofs.AcquireTurns.{in_doubt_cause, frozen_cause, pending_cause, full_cause, disk_cause, granted_else}
use Rattle.casper_answers.proofs.FreeAcquires.{free_granted, granted_free}
use Rattle.casper_answers.proofs.Sessions.{every_session}

-- The causes of what an acquire answers.

pub every_in_doubt : EachInDoubtHasItsCause
every_in_doubt vault pages limit capacity happenings none named =
    let session = every_session vault pages limit capacity happenings none named in
    in_doubt_cause (state_after (start vault pages limit capacity) happenings) session.answering.known

pub every_frozen : EachFrozenHasItsCause
every_frozen vault pages limit capacity happenings none named =
    let session = every_session vault pages limit capacity happenings none named in
    frozen_cause (state_after (start vault pages limit capacity) happenings) session.answering.known

pub every_pending : EachPendingHasItsCause
every_pending vault pages limit capacity happenings none named =
    let session = every_session vault pages limit capacity happenings none named in
    pending_cause (state_after (start vault pages limit capacity) happenings) session.answering.known

pub every_trail_full : EachTrailFullHasItsCause
every_trail_full vault pages limit capacity happenings none named =
    let session = every_session vault pages limit capacity happenings none named in
    full_cause (state_after (start vault pages limit capacity) happenings) session.answering.known

pub every_disk : EachDiskHasItsCause
every_disk vault pages limit capacity happenings none named =
    let session = every_session vault pages limit capacity happenings none named in
    disk_cause (state_after (start vault pages limit capacity) happenings) session.answering.known

pub every_granted : EachIsGrantedWhereNothingHinders
every_granted vault pages limit capacity happenings none named =
    let session = every_session vault pages limit capacity happenings none named in
    granted_else (state_after (start vault pages limit capacity) happenings) session.answering.known

pub every_free : EachFreeAcquireIsGranted
every_free vault pages limit capacity happenings none named =
    let session = every_session vault pages limit capacity happenings none named in
    free_granted (state_after (start vault pages limit capacity) happenings) session.answering.known

pub every_grant_free : EachGrantIsOfTheFree
every_grant_free vault pages limit capacity happenings none named =
    let session = every_session vault pages limit capacity happenings none named in
    granted_free (state_after (start vault pages limit capacity) happenings) session.answering.known
