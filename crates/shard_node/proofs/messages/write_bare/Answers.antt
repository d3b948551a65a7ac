use Rattle.std.proofs.Common.{drop}
use Rattle.layout.specs.Sizes as sizes
use Rattle.shard_node.proofs.Requests.Told.{bare-sent}
use Rattle.shard_node.proofs.messages.write_bare.Goals as goal

pub returns : goal.returns
returns c answer bare is =
    let sent = bare-sent answer c.args.kind (drop sizes.message_header c.args.into.now) bare is in c.write_reply_header.ensures.holds answer sent.0 sent.1 sent.2
