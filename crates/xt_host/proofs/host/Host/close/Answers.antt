use Rattle.xt_host.proofs.host.Host.close.Goals as goal

-- the comparison of its sixteen books
pub returns : goal.returns
returns g c = (_, c.into_books-books.ensures.slots, c.into_books-books.ensures.own, c.compare_all.ensures.all, rw (← c.deref.ensures.value) c.compare_all.ensures.answered)
