use Rattle.std.proofs.Common.{rules, ◌≡◌, ◌∷◌, ◌++◌, [], Bool, false, Vec, length, replicate, refl, ◌∙◌, ap}
use Rattle.std.proofs.lemmas.List.{length-replicate}
use Rattle.std.specs.declared.alloc.Global.{Global}
use Rattle.casper_disk.specs.Plan.{armed_with}
use Rattle.casper_disk.specs.declared.step.Step.TheVariants as step
use Rattle.casper_disk.proofs.CallLemmas.{step_keeps, armed_by_parts}
use Rattle.casper_disk.proofs.RecordLemmas.{none_marked, armed_loose, armed_elapses, loose_with}
use Rattle.casper_disk.proofs.mem_disk.MemDisk.arm.Goals as goal

pub returns-clause-loose : goal.returns-clause-loose
returns-clause-loose c =
    let marks : c.replace-marks.result ≡ c.self.inside.marks = search rules in
    let longer : c.push_reserved.new.self.items ≡ c.self.inside.steps.items ++ step.Missed c.replace-marks.result ∷ [] = search rules in
    let fresh : c.replace-marks.new.dest.items ≡ replicate (length c.self.inside.blocks.items) false = search rules in
    rw (← c.self.view_is)
    (armed_loose c.self.inside.steps.items c.push_reserved.new.self.items c.replace-marks.result c.replace-marks.new.dest.items longer
    (none_marked c.replace-marks.new.dest.items (length c.self.inside.blocks.items) fresh)
    ∙ ap (λ (v : Vec Bool Global). loose_with c.self.inside.steps.items v.items) marks)

pub returns-clause-after : goal.returns-clause-after
returns-clause-after c =
    let marks : c.replace-marks.result ≡ c.self.inside.marks = search rules in
    let longer : c.push_reserved.new.self.items ≡ c.self.inside.steps.items ++ step.Missed c.replace-marks.result ∷ [] = search rules in
    let armed : c.len-self-inside.result ≡ length c.push_reserved.new.self.items = search rules in
    let room : length c.in_ok-spare.spare.items ≡ c.args.calls = ap length c.in_ok-spare.ensures ∙ length-replicate c.args.calls (replicate 4096 0) in
    let fresh : c.replace-marks.new.dest.items ≡ replicate (length c.self.inside.blocks.items) false = search rules in
    let plan : c.arm.new.self ≡ armed_with c.args.fails.now c.self.inside.plan = search rules in
    rw (← c.self.view_is)
    (armed_by_parts c.args.fails.now c.args.calls _ _ c.replace-marks.result (ap (λ (v : Vec Bool Global). v.items) marks) refl longer armed room fresh plan)

pub returns-clause-record : goal.returns-clause-record
returns-clause-record c =
    let longer : c.push_reserved.new.self.items ≡ c.self.inside.steps.items ++ step.Missed c.replace-marks.result ∷ [] = search rules in
    rw (← c.self.view_is) (step_keeps _ _ (step.Missed c.replace-marks.result) longer refl)

pub returns-clause-images : goal.returns-clause-images
returns-clause-images c =
    let marks : c.self.inside.marks ≡ c.replace-marks.result = search rules in
    let longer : c.push_reserved.new.self.items ≡ c.self.inside.steps.items ++ step.Missed c.self.inside.marks ∷ [] = search rules in
    let fresh : c.replace-marks.new.dest.items ≡ replicate (length c.self.inside.blocks.items) false = search rules in
    rw (← c.self.view_is)
    (armed_elapses c.self.inside.steps.items c.push_reserved.new.self.items c.self.inside.blocks.items c.self.inside.marks c.replace-marks.new.dest.items longer
    (none_marked c.replace-marks.new.dest.items (length c.self.inside.blocks.items) fresh))
