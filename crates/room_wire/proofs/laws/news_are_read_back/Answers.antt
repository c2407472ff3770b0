use Rattle.room_wire.proofs.NewsBackProofs.{news_read_back}
use Rattle.room_wire.proofs.laws.news_are_read_back.Goals as goal

pub returns : goal.returns
returns c = news_read_back c.latitude_is_read_back.ensures c.longitude_is_read_back.ensures
