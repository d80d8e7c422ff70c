use Rattle.casper_trail.proofs.CallLists.{calls_of_more, calls_of_their_client, calls_of_another, calls_after_touch, calls_after_mark, clients_of_more, clients_of_calls, count_of_more_entries, count_after_mark}
use Rattle.casper_trail.proofs.Whole.{whole_is_legal}
use Rattle.casper_trail.proofs.laws.call_laws.Goals as goal

pub returns : goal.returns
returns c = record {
  more = calls_of_more;
  own = calls_of_their_client;
  another = calls_of_another;
  touch = calls_after_touch;
  mark = calls_after_mark;
  clients = clients_of_more;
  clients_calls = clients_of_calls;
  count = count_of_more_entries;
  count_mark = count_after_mark;
  whole = whole_is_legal;
}
