use Rattle.std.proofs.Common.{◌≡◌, ◌<◌, true, length, set, refl, ◌∙◌, ap, arith, [], length-append}
use Rattle.std.proofs.lemmas.List.{get_or_read, length-set}
use Rattle.casper_disk.specs.MemDisk.{Held}
use Rattle.casper_disk.specs.declared.step.Step.TheVariants as step
use Rattle.casper_disk.proofs.CallLemmas.{step_keeps, all_within}
use Rattle.casper_disk.proofs.RecordLemmas.{none_marked, wrote_loose, missed_loose, missed_elapses, wrote_elapses, written_back}
use Rattle.casper_disk.proofs.mem_disk.MemDiskDisk.write.Goals as goal

pub returns-in_default-clause-loose : goal.returns-in_default-clause-loose
returns-in_default-clause-loose c =
    let size : length c.self.inside.blocks.items ≡ length c.args.self.now.content = ap (λ (disk : Held). length disk.content) c.self.view_is in
    let within : c.args.at < length c.self.inside.marks.items = omega arith in
    all_within _ _ (rw (← c.self.view_is)
    (missed_loose c.self.inside.steps.items c.self.inside.marks.items (set c.self.inside.marks.items c.args.at true) c.args.at within refl))

pub returns-in_default-clause-images : goal.returns-in_default-clause-images
returns-in_default-clause-images c =
    let size : length c.self.inside.blocks.items ≡ length c.args.self.now.content = ap (λ (disk : Held). length disk.content) c.self.view_is in
    let within : c.args.at < length c.self.inside.marks.items = omega arith in
    rw (← c.self.view_is)
    (missed_elapses c.self.inside.steps.items c.self.inside.blocks.items c.self.inside.marks.items (set c.self.inside.marks.items c.args.at true) c.args.at within refl)

pub returns-clause-loose : goal.returns-clause-loose
returns-clause-loose c =
    all_within _ _ (rw (← c.self.view_is)
    (wrote_loose c.self.inside.steps.items c.push_reserved.new.self.items c.self.inside.marks.items c.args.at c.copy_from.new.self c.push_reserved.ensures.items))

pub returns-clause-images : goal.returns-clause-images
returns-clause-images c =
    let some : 0 < length c.self.inside.spare.items = omega (arith, simp length-append at (ap length c.in-Some.ensures.items)) in
    let size : length c.self.inside.blocks.items ≡ length c.args.self.now.content = ap (λ (disk : Held). length disk.content) c.self.view_is in
    let within : c.args.at < length c.self.inside.blocks.items = omega arith in
    rw (← c.self.view_is)
    (wrote_elapses c.self.inside.steps.items c.push_reserved.new.self.items c.self.inside.blocks.items (set c.self.inside.blocks.items c.args.at c.copy_from-2.new.self)
    c.self.inside.marks.items c.args.at c.copy_from.new.self c.copy_from-2.new.self c.push_reserved.ensures.items
    (c.copy_from.ensures.same ∙ get_or_read c.self.inside.blocks.items c.args.at c.index_mut-block.result.now within c.index_mut-block.ensures.value []) refl
    (none_marked c.self.inside.marks.items (length c.self.inside.blocks.items) (c.self.invariant.unmarked some)))

pub returns-clause-record : goal.returns-clause-record
returns-clause-record c =
    let size : length c.self.inside.blocks.items ≡ length c.args.self.now.content = ap (λ (disk : Held). length disk.content) c.self.view_is in
    let within : c.args.at < length c.self.inside.blocks.items = omega arith in
    rw (← c.self.view_is)
    (step_keeps _ _ (step.Wrote c.args.at c.copy_from.new.self) c.push_reserved.ensures.items
    (written_back c.self.inside.blocks.items c.args.at c.copy_from-2.new.self c.copy_from.new.self
    (c.copy_from.ensures.same ∙ get_or_read c.self.inside.blocks.items c.args.at c.index_mut-block.result.now within c.index_mut-block.ensures.value [])))

pub returns-clause-leads : goal.returns-clause-leads
returns-clause-leads c = record {
  size = length-set c.self.inside.blocks.items c.args.at _ ∙ ap (λ (disk : Held). length disk.content) c.self.view_is;
  kept = returns-clause-record c;
  fails = c.answer.ensures.same_fails ∙ c.count_call.ensures.same_fails ∙ ap (λ (disk : Held). disk.plan.fails) c.self.view_is;
  faults = omega (arith, c.answer.ensures.never_falls, c.count_call.ensures.faults, ap (λ (disk : Held). disk.plan.faults) c.self.view_is);
}
