use Rattle.casper_model.specs.Run.{state_after}
use Rattle.casper_model.specs.State.{start}
use Rattle.casper_answers.specs.StabiliseCauses.{EachGatheringHasItsCause, EachSealedHasItsCause, EachDoingHasItsCause, EachFullJoinHasItsCause, EachJoinsWhereThereIsRoom}
use Rattle.casper_answers.proofs.JoinTurns.{full_join, joins_where_room}
use Rattle.casper_answers.proofs.StabiliseTurns.{gathering_cause, sealed_cause, doing_cause}
use Rattle.casper_answers.proofs.Sessions.{every_session}

-- The causes of what a stabilise and a join answer.

pub every_gathering : EachGatheringHasItsCause
every_gathering vault pages limit capacity happenings none named =
    let session = every_session vault pages limit capacity happenings none named in
    gathering_cause (state_after (start vault pages limit capacity) happenings) session.answering.known

pub every_sealed : EachSealedHasItsCause
every_sealed vault pages limit capacity happenings none named =
    let session = every_session vault pages limit capacity happenings none named in
    sealed_cause (state_after (start vault pages limit capacity) happenings) session.answering.known

pub every_doing : EachDoingHasItsCause
every_doing vault pages limit capacity happenings none named =
    let session = every_session vault pages limit capacity happenings none named in
    doing_cause (state_after (start vault pages limit capacity) happenings) session.answering.known

pub every_full_join : EachFullJoinHasItsCause
every_full_join vault pages limit capacity happenings none named =
    let session = every_session vault pages limit capacity happenings none named in
    full_join (state_after (start vault pages limit capacity) happenings) session.answering.known

pub every_join : EachJoinsWhereThereIsRoom
every_join vault pages limit capacity happenings none named =
    let session = every_session vault pages limit capacity happenings none named in
    joins_where_room (state_after (start vault pages limit capacity) happenings) session.answering.known
