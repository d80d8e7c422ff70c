use Rattle.std.proofs.Common.{refl}
use Rattle.casper_words.specs.Crew.{clients, crew_of}
use Rattle.casper_trail.specs.Association.{association_of}
use Rattle.casper_answers.specs.AnswerRows.{KeptCommit, SealedWithAsker, NotedLoss, FallenClient, Gather, Doubt, PendingAsk}

-- What the runs come to.

pub row_kept : KeptCommit
unfolding clients crew_of association_of
row_kept = (refl, refl, refl)

pub row_sealed : SealedWithAsker
unfolding clients crew_of association_of
row_sealed = (refl, refl, refl)

pub row_noted : NotedLoss
unfolding clients crew_of association_of
row_noted = (refl, refl)

pub row_fallen : FallenClient
unfolding clients crew_of association_of
row_fallen = (refl, refl)

pub row_gather : Gather
unfolding clients crew_of association_of
row_gather = (refl, refl)

pub row_doubt : Doubt
unfolding clients crew_of association_of
row_doubt = (refl, refl)

pub row_pending : PendingAsk
unfolding clients crew_of association_of
row_pending = (refl, refl)
