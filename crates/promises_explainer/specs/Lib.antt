pub mod ExplainerCalls
