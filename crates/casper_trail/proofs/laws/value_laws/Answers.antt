use Rattle.casper_trail.proofs.Values.{value_of_more, value_by_its_page, array_keeps_shape, array_has_values, array_by_its_words, array_of_more}
use Rattle.casper_trail.proofs.laws.value_laws.Goals as goal

pub returns : goal.returns
returns c = record {
  more = value_of_more;
  page = value_by_its_page;
  shape = array_keeps_shape;
  values = array_has_values;
  words = array_by_its_words;
  array = array_of_more;
}
