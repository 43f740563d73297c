use Rattle.pp_node.proofs.seeding.serve.Goals as goal

pub returns : goal.returns
returns g c b begun = record {
  last = c.take_all-status.new.peer;
  serves = c.take_all-status.ensures b begun;
  book_is = c.into_book.ensures.same;
  rooted = c.into_book.ensures.book;
}
