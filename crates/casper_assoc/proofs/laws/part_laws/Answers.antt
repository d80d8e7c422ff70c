use Rattle.casper_assoc.proofs.PartsOfClients.{clients_are_in_their_part, members_have_the_label, parts_go_by_label, page_labels_are_labels, written_pages_have_the_label, labelled_pages_are_written, merged_part, others_stay_apart, dissolved_alone, others_stay_whole}
use Rattle.casper_assoc.proofs.laws.part_laws.Goals as goal

pub returns : goal.returns
returns c = record {
  own = clients_are_in_their_part;
  members = members_have_the_label;
  label = parts_go_by_label;
  pages = page_labels_are_labels;
  written = written_pages_have_the_label;
  labelled = labelled_pages_are_written;
  merged = merged_part;
  unmerged = others_stay_apart;
  dissolved = dissolved_alone;
  whole = others_stay_whole;
}
