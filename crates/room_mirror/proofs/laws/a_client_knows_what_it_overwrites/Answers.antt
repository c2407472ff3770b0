use Rattle.room_mirror.proofs.laws.a_client_knows_what_it_overwrites.Goals as goal

pub returns : goal.returns
returns g c = λ base limit j call edit n seq sound legal asks done alone x here.
    ((c.journals_hold.ensures base limit j sound legal).nothing_lost call edit n seq asks done).2 alone x here
