mod Parts
mod Cases
