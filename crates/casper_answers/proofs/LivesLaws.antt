use Rattle.casper_model.specs.Run.{state_after}
use Rattle.casper_model.specs.State.{start}
use Rattle.casper_answers.specs.Lives.{EachStabilisationEndsOnlySo, EachMemberStays, EachSealedOneStaysSo, EachDoubtStands, EachAwaitedOneIsAMember, EachGatheringAwaits}
use Rattle.casper_answers.proofs.DoubtSteps.{stays_in_doubt}
use Rattle.casper_answers.proofs.StepMoves.{ends_only_so, keeps_members, stays_sealed}
use Rattle.casper_answers.proofs.Sessions.{every_session}

-- How long a stabilisation goes on.

pub every_end_is_so : EachStabilisationEndsOnlySo
every_end_is_so vault pages limit capacity happenings none named happened outside is =
    let session = every_session vault pages limit capacity happenings none named in
    ends_only_so (state_after (start vault pages limit capacity) happenings) session.answering.known happened outside is

pub every_member_stays : EachMemberStays
every_member_stays vault pages limit capacity happenings none named happened outside is =
    let session = every_session vault pages limit capacity happenings none named in
    keeps_members (state_after (start vault pages limit capacity) happenings) session.answering.known happened outside is

pub every_sealed_stays : EachSealedOneStaysSo
every_sealed_stays vault pages limit capacity happenings none named happened outside is =
    let session = every_session vault pages limit capacity happenings none named in
    stays_sealed (state_after (start vault pages limit capacity) happenings) session.answering.known happened outside is

pub every_doubt_stands : EachDoubtStands
every_doubt_stands vault pages limit capacity happenings none named happened outside is =
    let session = every_session vault pages limit capacity happenings none named in
    stays_in_doubt (state_after (start vault pages limit capacity) happenings) session.answering.known happened outside is

pub every_awaited_is_member : EachAwaitedOneIsAMember
every_awaited_is_member vault pages limit capacity happenings none named =
    let session = every_session vault pages limit capacity happenings none named in
    session.awaits

pub every_gathering_awaits : EachGatheringAwaits
every_gathering_awaits vault pages limit capacity happenings none named =
    let session = every_session vault pages limit capacity happenings none named in
    session.gathers
