use Rattle.std.proofs.Common.{refl}
use Rattle.casper_words.specs.Crew.{clients, crew_of}
use Rattle.casper_trail.specs.Association.{association_of}
use Rattle.casper_trail.specs.KnownTrails.{RecallAndMergeIsExact, LinkedRollbackFates, LinkedRollbackDropsBoth, LinkedRollbackIsExact, ThroughTwoPagesLinksThree, ThroughTwoPagesLeavesOne, ThroughTwoPagesIsLegal, StrayReadIsIllegal}

pub recall_is_exact : RecallAndMergeIsExact
unfolding association_of crew_of clients
recall_is_exact = (tt, (tt, (tt, (refl, tt))))

pub rollback_fates : LinkedRollbackFates
rollback_fates = refl

pub rollback_drops_both : LinkedRollbackDropsBoth
rollback_drops_both = refl

pub rollback_is_exact : LinkedRollbackIsExact
unfolding association_of crew_of clients
rollback_is_exact = (tt, (tt, (tt, (refl, (tt, tt)))))

pub links_three : ThroughTwoPagesLinksThree
unfolding association_of crew_of clients
links_three = refl

pub leaves_one : ThroughTwoPagesLeavesOne
unfolding association_of crew_of clients
leaves_one = refl

pub is_legal : ThroughTwoPagesIsLegal
is_legal = (tt, (tt, (tt, (refl, (tt, (tt, (tt, (tt, (tt, (refl, tt))))))))))

pub stray_read : StrayReadIsIllegal
stray_read = λ legal. let wrong = legal.1.0 in cc
