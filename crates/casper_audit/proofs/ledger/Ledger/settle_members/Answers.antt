use Rattle.std.proofs.Common.{◌≡◌, ℕ, subst, arith}
use Rattle.casper_audit.specs.Settled.{Settles, is_theirs, has_theirs}
use Rattle.casper_audit.proofs.SettleLemmas.{members_first, members_more}
use Rattle.casper_audit.proofs.ledger.Ledger.settle_members.Goals as goal

pub loop-below-init : goal.loop-below-init
loop-below-init c = members_first c.args.committed c.args.members c.args.self.now

pub loop-below-preserved : goal.loop-below-preserved
loop-below-preserved c =
    members_more c.args.committed c.args.members c.loop-below.below c.client.result c.args.self.now c.loop-below.self c.settle_member.new.self (omega arith) c.client.ensures
    c.loop-below.invariant c.in_ok-settle_member.ensures.settles c.in_ok-settle_member.ensures.empties

pub returns : goal.returns
returns c =
    let all : c.loop-below.below ≡ 32 = omega arith in
    record {
      settles = subst (λ (n : ℕ). Settles c.args.committed (is_theirs c.args.self.now c.args.members n) (has_theirs c.args.self.now c.args.members n) c.args.self.now c.loop-below.self) all c.loop-below.invariant.settles;
      empties = λ who is. c.loop-below.invariant.empties who is (omega (arith, is.1));
    }
