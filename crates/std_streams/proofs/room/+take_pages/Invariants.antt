use Rattle.std_streams.proofs.room.+take_pages.Given as goal

abbrev pub decreases-take_pages : goal.decreases-take_pages
decreases-take_pages g l = l.pages
