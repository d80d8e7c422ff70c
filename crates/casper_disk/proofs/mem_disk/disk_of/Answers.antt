use Rattle.std.proofs.Common.{rules, ◌≡◌, ◌∙◌, ap, [], List, false, replicate, length}
use Rattle.casper_disk.specs.declared.step.Step.{Step}
use Rattle.casper_disk.proofs.RecordLemmas.{fresh_loose, loose_with}
use Rattle.casper_disk.proofs.mem_disk.disk_of.Goals as goal

pub returns-clause-loose : goal.returns-clause-loose
returns-clause-loose c =
    let unmarked : c.in_ok-marks.marks.items ≡ replicate (length c.args.blocks.items) false = search rules in
    let empty : c.in_ok-steps.steps.items ≡ [] = search rules in
    ap (λ (steps : List Step). loose_with steps c.in_ok-marks.marks.items) empty ∙ fresh_loose c.in_ok-marks.marks.items (length c.args.blocks.items) unmarked
