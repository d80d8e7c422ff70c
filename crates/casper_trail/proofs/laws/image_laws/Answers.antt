use Rattle.casper_trail.proofs.Images.{image_without_commit, image_without_members}
use Rattle.casper_trail.proofs.laws.image_laws.Goals as goal

pub returns : goal.returns
returns c = record {
  stable = image_without_commit;
  members = image_without_members;
}
