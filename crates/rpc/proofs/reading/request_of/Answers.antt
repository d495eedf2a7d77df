use Rattle.std.proofs.Common.{rules}
use Rattle.rpc.proofs.KnownMethods.{gives_at}
use Rattle.rpc.proofs.reading.request_of.Goals as goal

pub returns-in-initialize : goal.returns-in-initialize
returns-in-initialize c = gives_at c.initialize_request.result c.args.method.now _ _ _ c.in-initialize.is c.initialize_request.ensures

pub returns-in-text : goal.returns-in-text
returns-in-text c = gives_at c.folds_request.result c.args.method.now _ _ _ c.in-text.is c.folds_request.ensures

pub returns-in-text-2 : goal.returns-in-text-2
returns-in-text-2 c = gives_at c.selections_request.result c.args.method.now _ _ _ c.in-text-2.is c.selections_request.ensures

pub returns-in-text-3 : goal.returns-in-text-3
returns-in-text-3 c = gives_at c.text_request.result c.args.method.now _ _ _ c.in-text-3.is c.text_request.ensures

pub returns-in-text-4 : goal.returns-in-text-4
returns-in-text-4 c = gives_at c.tokens_request.result c.args.method.now _ _ _ c.in-text-4.is c.tokens_request.ensures

pub returns-in-text-5 : goal.returns-in-text-5
returns-in-text-5 c = gives_at c.tree_request.result c.args.method.now _ _ _ c.in-text-5.is c.tree_request.ensures

pub returns-in-text-6 : goal.returns-in-text-6
returns-in-text-6 c = gives_at c.stats_request.result c.args.method.now _ _ _ c.in-text-6.is c.stats_request.ensures

pub returns-in_default : goal.returns-in_default
returns-in_default c = search rules
