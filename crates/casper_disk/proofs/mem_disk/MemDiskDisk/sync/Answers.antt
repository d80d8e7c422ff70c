use Rattle.std.proofs.Common.{◌<◌, ◌∙◌, length, refl, ap, arith, length-append}
use Rattle.casper_disk.specs.MemDisk.{Held}
use Rattle.casper_disk.specs.declared.step.Step.TheVariants as step
use Rattle.casper_disk.proofs.CallLemmas.{step_keeps, all_within}
use Rattle.casper_disk.proofs.RecordLemmas.{none_marked, synced_loose, unsynced_loose, synced_elapses, unsynced_elapses, refused_elapses}
use Rattle.casper_disk.proofs.mem_disk.MemDiskDisk.sync.Goals as goal

pub returns-in_default-clause-images : goal.returns-in_default-clause-images
returns-in_default-clause-images c =
    rw (← c.self.view_is) (refused_elapses c.self.inside.steps.items c.self.inside.blocks.items c.self.inside.marks.items)

pub returns-then-fails-clause-unsettled : goal.returns-then-fails-clause-unsettled
returns-then-fails-clause-unsettled c =
    all_within _ _ (rw (← c.self.view_is)
    (unsynced_loose c.self.inside.steps.items c.push_reserved.new.self.items c.self.inside.marks.items c.push_reserved.ensures.items))

pub returns-then-fails-clause-images : goal.returns-then-fails-clause-images
returns-then-fails-clause-images c =
    let some : 0 < length c.self.inside.spare.items = omega (arith, simp length-append at (ap length c.in-Some.ensures.items)) in
    rw (← c.self.view_is)
    (unsynced_elapses c.self.inside.steps.items c.push_reserved.new.self.items c.self.inside.blocks.items c.self.inside.marks.items c.push_reserved.ensures.items
    (none_marked c.self.inside.marks.items (length c.self.inside.blocks.items) (c.self.invariant.unmarked some)))

pub returns-clause-settled : goal.returns-clause-settled
returns-clause-settled c =
    let some : 0 < length c.self.inside.spare.items = omega (arith, simp length-append at (ap length c.in-Some.ensures.items)) in
    synced_loose c.self.inside.steps.items c.push_reserved-2.new.self.items c.self.inside.marks.items c.push_reserved-2.ensures.items
    (none_marked c.self.inside.marks.items (length c.self.inside.blocks.items) (c.self.invariant.unmarked some))

pub returns-clause-images : goal.returns-clause-images
returns-clause-images c =
    let some : 0 < length c.self.inside.spare.items = omega (arith, simp length-append at (ap length c.in-Some.ensures.items)) in
    rw (← c.self.view_is)
    (synced_elapses c.self.inside.steps.items c.push_reserved-2.new.self.items c.self.inside.blocks.items c.self.inside.marks.items c.push_reserved-2.ensures.items
    (none_marked c.self.inside.marks.items (length c.self.inside.blocks.items) (c.self.invariant.unmarked some)))

pub returns-then-fails-clause-record : goal.returns-then-fails-clause-record
returns-then-fails-clause-record c = rw (← c.self.view_is) (step_keeps _ _ step.Unsynced c.push_reserved.ensures.items refl)

pub returns-clause-record : goal.returns-clause-record
returns-clause-record c = rw (← c.self.view_is) (step_keeps _ _ step.Synced c.push_reserved-2.ensures.items refl)

pub returns-then-fails-clause-leads : goal.returns-then-fails-clause-leads
returns-then-fails-clause-leads c = record {
  size = ap (λ (disk : Held). length disk.content) c.self.view_is;
  kept = returns-then-fails-clause-record c;
  fails = c.fault-then-fails.ensures.same_fails ∙ c.count_call.ensures.same_fails ∙ ap (λ (disk : Held). disk.plan.fails) c.self.view_is;
  faults = omega (arith, c.fault-then-fails.ensures.never_falls, c.count_call.ensures.faults, ap (λ (disk : Held). disk.plan.faults) c.self.view_is);
}

pub returns-clause-leads : goal.returns-clause-leads
returns-clause-leads c = record {
  size = ap (λ (disk : Held). length disk.content) c.self.view_is;
  kept = returns-clause-record c;
  fails = c.count_call.ensures.same_fails ∙ ap (λ (disk : Held). disk.plan.fails) c.self.view_is;
  faults = omega (arith, c.count_call.ensures.faults, ap (λ (disk : Held). disk.plan.faults) c.self.view_is);
}
